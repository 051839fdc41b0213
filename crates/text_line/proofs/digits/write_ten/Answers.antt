use Rattle.std.proofs.Common.{List, ℕ, ◌++◌, ap, sym, take, ◌∙◌}
use Rattle.text_line.proofs.Hex.{behind_pairs, ten_digits}
use Rattle.text_line.proofs.digits.write_ten.Goals as goal

pub returns-clause-written : goal.returns-clause-written
returns-clause-written c =
    let at = c.args.at in
    let two = behind_pairs at 2 _ _ _ _ _ c.append_pair.ensures.written c.append_pair-2.ensures.written in
    let three = behind_pairs at 4 _ _ _ _ _ two c.append_pair-3.ensures.written in
    let four = behind_pairs at 6 _ _ _ _ _ three c.append_pair-4.ensures.written in
    let five = behind_pairs at 8 _ _ _ _ _ four c.append_pair-5.ensures.written in
    five ∙ ap (λ (text : List ℕ). take at c.args.bytes.now ++ text) (sym (ten_digits c.args.number c.requires.many c.requires.few))
