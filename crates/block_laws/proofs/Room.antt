-- A worker that has no spare finds a block to draw: those drawn are other workers' spares, or have entries that used cells of the swept sets need.
use Rattle.std.proofs.Common.{◌≡◌, ◌≢◌, ℕ, zero, suc, ◌+◌, ◌-◌, ◌*◌, ◌/◌, ◌%◌, ◌<◌, ◌≤◌, List, length, sum, sym, refl, ap, subst, ◌∙◌, arith}
use mathlib.Core.Logic.{dite}
use native.Mathlib.Decide.{ℕ_discrete, dec_le}
use Rattle.std.proofs.lemmas.List.Sums.{sum_by-cons}
use Rattle.set_blocks.specs.Blocks.{blocks_below, blocks_for}
use Rattle.set_blocks.specs.Names.{blocks_of}
use Rattle.set_blocks.proofs.Tails.{all_sets}
use Rattle.sweep_laws.specs.Reading.{set_of}
use Rattle.sweep_laws.specs.State.{CoreState}
use Rattle.worker_log.specs.declared.Entry.{Entry as LogEntry}
use Rattle.swept_set_laws.specs.Entered.{EnteredIn}
use Rattle.swept_set_laws.specs.SweptTails.{swept_tails}
use Rattle.swept_set_laws.proofs.Across.{tails_fit}
use Rattle.swept_set_laws.proofs.Pigeons.{pigeons}
use Rattle.block_laws.specs.Blocked.{Blocked, BlockState, IsBacked, Use, Free, Spare, InSpine, swept_part}
use Rattle.block_laws.specs.Steps.{put_one}
use Rattle.block_laws.proofs.Puts.{one_here, one_else}

module _ (c : CoreState) (top : ℕ) (all_are : top ≡ 272) where
  tails_many : (n : ℕ) → length (swept_tails c n) ≡ n
  tails_many zero = refl
  tails_many (suc n) = ap suc (tails_many n)

  next : (n : ℕ) → blocks_for (swept_tails c (suc n)) ≡ blocks_below (set_of c (2 * n + (c.generation / 2) % 2)).tail + blocks_for (swept_tails c n)
  next n = sum_by-cons blocks_below (set_of c (2 * n + (c.generation / 2) % 2)).tail (swept_tails c n)

  rises : (m d : ℕ) → blocks_for (swept_tails c m) ≤ blocks_for (swept_tails c (d + m))
  rises m zero = ap_le (let z : zero + m ≡ m = omega arith in z)
    where
      ap_le : zero + m ≡ m → blocks_for (swept_tails c m) ≤ blocks_for (swept_tails c (zero + m))
      ap_le e = subst (λ (y : ℕ). blocks_for (swept_tails c m) ≤ blocks_for (swept_tails c y)) (sym e) (omega arith)
  rises m (suc d) = let t = rises m d in let u = next (d + m) in
      subst (λ (y : ℕ). blocks_for (swept_tails c m) ≤ blocks_for (swept_tails c y)) (let z : suc (d + m) ≡ suc d + m = omega arith in z) (omega arith)

  rises_to : (m n : ℕ) → m ≤ n → blocks_for (swept_tails c m) ≤ blocks_for (swept_tails c n)
  rises_to m n le = subst (λ (y : ℕ). blocks_for (swept_tails c m) ≤ blocks_for (swept_tails c y)) (let z : (n - m) + m ≡ n = omega arith in z) (rises m (n - m))

  -- an entry that is used is one of its set's blocks, which stand behind those of the sets before
  below : (n e : ℕ) → n < top → 512 * e < (set_of c (2 * n + (c.generation / 2) % 2)).tail → blocks_for (swept_tails c n) + e < blocks_for (swept_tails c top)
  below n e low inside = let u = next n in let t = rises_to (suc n) top (omega arith) in
      let one : e < blocks_below (set_of c (2 * n + (c.generation / 2) % 2)).tail = omega arith in omega arith

  apart : (n m e f : ℕ) → n < m → 512 * e < (set_of c (2 * n + (c.generation / 2) % 2)).tail → blocks_for (swept_tails c n) + e < blocks_for (swept_tails c m) + f
  apart n m e f less inside = let u = next n in let t = rises_to (suc n) m (omega arith) in
      let one : e < blocks_below (set_of c (2 * n + (c.generation / 2) % 2)).tail = omega arith in omega arith

  -- a block's number among spares and entries
  abbrev rank : Use → ℕ
  rank Free = 0
  rank (Spare n) = n
  rank (InSpine s e) = 70 + (blocks_for (swept_tails c (s / 2)) + e)

  module _ (chunks : ℕ) (b : BlockState) (k : Blocked chunks c.generation c.sets b) where
    half : (s : ℕ) → s % 2 ≡ swept_part c.generation → 2 * (s / 2) + (c.generation / 2) % 2 ≡ s
    half s e = omega arith

    -- an entry that names a block is used by a cell of its set
    inside : (x s e : ℕ) → b.uses (swept_part c.generation) x ≡ InSpine s e → 512 * e < (set_of c (2 * (s / 2) + (c.generation / 2) % 2)).tail
    inside x s e is = let u = k.used (swept_part c.generation) x s e is in
        subst (λ (q : ℕ). 512 * e < (set_of c q).tail) (sym (half s u.2)) (k.named s e x u.0 u.1 u.3).2

    low : (x : ℕ) (u : Use) → b.uses (swept_part c.generation) x ≡ u → IsBacked b x u → rank u < 70 + blocks_for (swept_tails c top)
    low x Free is backed = absurd backed
    low x (Spare n) is backed = let t = backed.0 in omega arith
    low x (InSpine s e) is backed = let u = k.used (swept_part c.generation) x s e is in let u₀ = u.0 in let t = below (s / 2) e (omega arith) (inside x s e is) in omega arith

    spare_differs : (n x y : ℕ) → b.spare n ≡ suc x → b.spare n ≡ suc y → x ≡ y
    spare_differs n x y e f = let z = sym e ∙ f in omega arith

    same : (x y : ℕ) (u v : Use) → b.uses (swept_part c.generation) x ≡ u → b.uses (swept_part c.generation) y ≡ v → IsBacked b x u → IsBacked b y v → rank u ≡ rank v → x ≡ y
    same x y Free v is it backed too e = absurd backed
    same x y u Free is it backed too e = absurd too
    same x y (Spare n) (Spare m) is it backed too e = spare_differs m x y (ap b.spare (sym e) ∙ backed.1) too.1
    same x y (Spare n) (InSpine s e) is it backed too z = let t = backed.0 in absurd (omega arith)
    same x y (InSpine s e) (Spare n) is it backed too z = let t = too.0 in absurd (omega arith)
    same x y (InSpine s e) (InSpine t f) is it backed too z =
        let u = k.used (swept_part c.generation) x s e is in let v = k.used (swept_part c.generation) y t f it in
        let a = inside x s e is in let d = inside y t f it in
        dite (dec_le (suc (s / 2)) (t / 2)) (λ l. let w = apart (s / 2) (t / 2) e f (omega arith) a in absurd (omega arith))
        (λ l. dite (dec_le (suc (t / 2)) (s / 2)) (λ m. let w = apart (t / 2) (s / 2) f e (omega arith) d in absurd (omega arith))
        (λ m. let halves : s / 2 ≡ t / 2 = omega arith in let u₂ = u.2 in let v₂ = v.2 in let one : s ≡ t = omega arith in
        let first = ap (λ (q : ℕ). blocks_for (swept_tails c q)) halves in let two : e ≡ f = omega arith in
        let w = sym u.3 ∙ (λ i. b.entry (one i) (two i)) ∙ v.3 in omega arith))

    -- whoever has no spare counts for one block more
    abbrev rank_of : ℕ → ℕ → ℕ
    rank_of n x = put_one (λ y. rank (b.uses (swept_part c.generation) y)) (b.drawn (swept_part c.generation)) n x

    one_is_left : (logs : List (List LogEntry)) (names : ℕ → ℕ → ℕ) → EnteredIn c logs names → length c.words ≡ 512 * chunks → (n : ℕ) → n < 70 → b.spare n ≡ 0 → b.drawn (swept_part c.generation) < blocks_of chunks
    one_is_left logs names e many n few none =
        let fit = subst (λ (t : ℕ). sum (swept_tails c t) ≤ 2 * length c.words) (sym all_are) (tails_fit c logs names e) in let all = all_sets (swept_tails c top) in let wide = tails_many top in
        let bound = pigeons (rank_of n) (b.drawn (swept_part c.generation) + 1) (70 + blocks_for (swept_tails c top)) lows onces in enough (b.drawn (swept_part c.generation)) (blocks_for (swept_tails c top)) (sum (swept_tails c top)) (length (swept_tails c top)) (length c.words) fit many all (wide ∙ all_are) bound
      where
        enough : (drawn blocks cells sets pages : ℕ) → cells ≤ 2 * pages → pages ≡ 512 * chunks → 512 * blocks ≤ cells + 511 * sets → sets ≡ 272 → drawn + 1 ≤ 70 + blocks → drawn < blocks_of chunks
        enough drawn blocks cells sets pages a d e f h = omega arith

        here : rank_of n (b.drawn (swept_part c.generation)) ≡ n
        here = one_here (λ y. rank (b.uses (swept_part c.generation) y)) (b.drawn (swept_part c.generation)) n

        there : (x : ℕ) → x < b.drawn (swept_part c.generation) → rank_of n x ≡ rank (b.uses (swept_part c.generation) x)
        there x l = one_else (λ y. rank (b.uses (swept_part c.generation) y)) (b.drawn (swept_part c.generation)) n x (λ z. omega arith)

        lows : (i : ℕ) → i < b.drawn (swept_part c.generation) + 1 → rank_of n i < 70 + blocks_for (swept_tails c top)
        lows i l = dite (ℕ_discrete i (b.drawn (swept_part c.generation)))
            (λ z. let t = ap (rank_of n) z ∙ here in omega arith)
            (λ z. let y : i < b.drawn (swept_part c.generation) = omega arith in let t = there i y in let u = low i (b.uses (swept_part c.generation) i) refl (k.backed i y) in omega arith)

        other : (x : ℕ) (u : Use) → IsBacked b x u → rank u ≢ n
        other x Free backed z = backed
        other x (Spare m) backed z = let t = sym backed.1 ∙ ap b.spare z ∙ none in absurd (omega arith)
        other x (InSpine s f) backed z = absurd (omega arith)

        onces : (i j : ℕ) → i < b.drawn (swept_part c.generation) + 1 → j < b.drawn (swept_part c.generation) + 1 → rank_of n i ≡ rank_of n j → i ≡ j
        onces i j l m z = dite (ℕ_discrete i (b.drawn (swept_part c.generation)))
            (λ p. dite (ℕ_discrete j (b.drawn (swept_part c.generation))) (λ q. omega arith)
            (λ q. let y : j < b.drawn (swept_part c.generation) = omega arith in absurd (other j (b.uses (swept_part c.generation) j) (k.backed j y) (sym (there j y) ∙ sym z ∙ ap (rank_of n) p ∙ here))))
            (λ p. let x : i < b.drawn (swept_part c.generation) = omega arith in dite (ℕ_discrete j (b.drawn (swept_part c.generation)))
            (λ q. absurd (other i (b.uses (swept_part c.generation) i) (k.backed i x) (sym (there i x) ∙ z ∙ ap (rank_of n) q ∙ here)))
            (λ q. let y : j < b.drawn (swept_part c.generation) = omega arith in
            same i j (b.uses (swept_part c.generation) i) (b.uses (swept_part c.generation) j) refl refl (k.backed i x) (k.backed j y) (sym (there i x) ∙ z ∙ there j y)))

pub block_left : (c : CoreState) (chunks : ℕ) (b : BlockState) → Blocked chunks c.generation c.sets b → (logs : List (List LogEntry)) (names : ℕ → ℕ → ℕ) → EnteredIn c logs names → length c.words ≡ 512 * chunks
    → (n : ℕ) → n < 70 → b.spare n ≡ 0 → b.drawn (swept_part c.generation) < blocks_of chunks
block_left c chunks b k logs names e many n few none = one_is_left c 272 refl chunks b k logs names e many n few none
