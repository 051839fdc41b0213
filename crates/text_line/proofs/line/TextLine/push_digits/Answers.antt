use Rattle.std.proofs.Common.{◌≡◌, ℕ, ◌+◌, ◌-◌, ◌≤◌, List, ◌++◌, length, take, drop, ap, ◌∙◌, arith, length-drop}
use Rattle.std.proofs.lemmas.List.{take-take, length-take-le}
use Rattle.text_line.proofs.Copied.{front-copied}
use Rattle.text_line.proofs.line.TextLine.push_digits.Goals as goal

pub returns : goal.returns
returns c =
    let used = c.self.inside.used in
    let count = 20 - c.args.start in
    let room = c.args.start + 20 - c.args.start in
    let behind = drop c.args.start c.args.digits.now in
    let long : room ≤ length behind = omega (arith, length-drop c.args.start c.args.digits.now) in
    let len : length c.copy_from_slice.new.self ≡ used + 20 - used = ap length c.copy_from_slice.ensures.after ∙ length-take-le room behind long ∙ omega arith in
    front-copied used count (used + 20 - used) c.self.inside.bytes c.copy_from_slice.new.self (omega arith) len (omega arith)
    ∙ (λ i. c.self.view_is i ++ take count (c.copy_from_slice.ensures.after i)) ∙ ap (λ (digits : List ℕ). c.args.self.now ++ digits) (take-take count room behind (omega arith))
