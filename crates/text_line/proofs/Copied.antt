-- The front of a piece that was copied behind a text.
use Rattle.std.proofs.Common.{◌≡◌, ℕ, ◌+◌, ◌≤◌, List, ◌++◌, length, take, sym, ap, subst, ◌∙◌, arith}
use Rattle.std.proofs.Math.Seq.{take-append-add}
use Rattle.std.proofs.lemmas.List.{take-take, length-take-le}
use Rattle.std.proofs.lemmas.Slice.{take-put_mid}
use borrow.Rule.Slice.PartMut.{put_mid}

pub front-copied : (used count room : ℕ) (bytes piece : List ℕ) → used ≤ length bytes → length piece ≡ room → count ≤ room
    → take (used + count) (put_mid used room bytes piece) ≡ take used bytes ++ take count piece
front-copied used count room bytes piece within long few =
    let whole = take-put_mid used room bytes piece (used + room) (omega arith) within in
    sym (take-take (used + count) (used + room) (put_mid used room bytes piece) (omega arith)) ∙ ap (λ (text : List ℕ). take (used + count) text) whole
    ∙ subst (λ (n : ℕ). take (n + count) (take used bytes ++ piece) ≡ take used bytes ++ take count piece) (length-take-le used bytes within) (take-append-add (take used bytes) piece count)
