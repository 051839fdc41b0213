-- The part of a buffer that waits.
use Rattle.std.proofs.Common.{◌≡◌, ℕ, ◌+◌, ◌-◌, ◌≤◌, List, ◌++◌, length, take, drop, sym, ap, ◌∙◌, arith}
use Rattle.std.proofs.lemmas.List.{drop-take, drop-append-le, length-take-le}
use Rattle.std.proofs.lemmas.Slice.{take-put_mid}
use borrow.Rule.Slice.PartMut.{put_mid}

pub waits-slice : {X : Type 0} (s e : ℕ) (b : List X) → s ≤ e → take (e - s) (drop s b) ≡ drop s (take e b)
waits-slice s e b le =
    let whole : s + (e - s) ≡ e = omega arith in
    sym (drop-take s (e - s) b) ∙ ap (λ (n : ℕ). drop s (take n b)) whole

pub waits-push : {X : Type 0} (s e k n : ℕ) (b piece : List X) → s ≤ e → e ≤ length b → n ≡ e + length piece
    → drop s (take n (put_mid e k b piece)) ≡ drop s (take e b) ++ piece
waits-push s e k n b piece le inside whole =
    let len : length (take e b) ≡ e = length-take-le e b inside in
    ap (λ (xs : List _). drop s xs) (take-put_mid e k b piece n whole inside) ∙ drop-append-le s (take e b) piece (omega arith)
