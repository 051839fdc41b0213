use Rattle.std.proofs.Common.{◌≡◌, ◌+◌, ◌*◌, List, ℕ, [], ◌∷◌, ◌++◌, ap, append_assoc, arith, get_or, length-set, set, take, ◌∙◌}
use Rattle.std.proofs.lemmas.List.{take_more_set}
use Rattle.text_line.specs.declared.digits.TheConstants.{PAIRS}
use Rattle.text_line.proofs.Hex.{pair_of}
use Rattle.text_line.proofs.digits.append_pair.Goals as goal

pub returns-clause-written : goal.returns-clause-written
returns-clause-written c =
    let pair = pair_of c.args.byte c.requires.byte in
    let at = c.args.at in
    let front = take at c.args.bytes.now in
    let high = get_or PAIRS (c.args.byte * 2) 0 in
    let low = get_or PAIRS (c.args.byte * 2 + 1) 0 in
    let e : at + 1 + 1 ≡ at + 2 = omega arith in
    let one = take_more_set c.args.bytes.now at high (omega arith) in
    let two = take_more_set (set c.args.bytes.now at high) (at + 1) low (omega (arith, length-set c.args.bytes.now at high)) in
    rw e at two ∙ ap (λ (text : List ℕ). text ++ low ∷ []) one ∙ append_assoc front (high ∷ []) (low ∷ []) ∙ (λ i. front ++ pair.0 i ∷ pair.1 i ∷ [])
