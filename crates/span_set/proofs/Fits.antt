-- The spans that were swept in one part of a call and then in another went to the sets that they fit.
use Rattle.std.proofs.Common.{◌≡◌, ℕ, zero, suc, ◌<◌, inl, inr, ⊎_elim, Bool, true, false, eqb, eq-eqb, ne_eqb, List, [], ◌∷◌, ◌++◌, refl, ap, sym, subst, ◌∙◌, append_assoc, arith}
use Rattle.std.specs.List.{AllByRecursion}
use Rattle.std.proofs.lemmas.List.Elements.{Contains-append_left, Contains-append_right}
use Rattle.page_bitmap.specs.Counts.{one_if}
use Rattle.span_state.specs.Bits.{IsFull, bit_of, count_below, with_bit}
use Rattle.span_state.specs.Counts.{count_below-le, count_below-with}
use Rattle.worker_log.specs.declared.Entry.{Entry}
use Rattle.worker_log.specs.declared.Entry.TheVariants.{Looked, LookedEmptyCell, Popped, Pushed, Swept, Took, Missed, Gave, Allocated, Found, Read, Added, Pulled, NoPage, Cut as CutEntry, NoCut, Settled}
use Rattle.worker_log.specs.declared.Sweeping.{Sweeping}
use Rattle.worker_log.specs.Logs.{sweepings}
use Rattle.worker_log.specs.SetNumbers.{swept_set}
use Rattle.worker_log.specs.Entries.{is_push_of, many}
use Rattle.worker_log.proofs.Logs.{many-append}
use Rattle.span_laws.specs.declared.view.Span.{Span}
use Rattle.span_laws.specs.Views.{Seen}
use Rattle.span_set.specs.Fits.{FitsSets, Went, WentToSet}

pub sweepings-append : (xs ys : List Entry) → sweepings (xs ++ ys) ≡ sweepings xs ++ sweepings ys
sweepings-append [] ys = refl
sweepings-append (Allocated a ∷ xs) ys = sweepings-append xs ys
sweepings-append (Swept s ∷ xs) ys = ap (λ (l : List Sweeping). s ∷ l) (sweepings-append xs ys)
sweepings-append (Missed m line ∷ xs) ys = sweepings-append xs ys
sweepings-append (Looked s h t ∷ xs) ys = sweepings-append xs ys
sweepings-append (LookedEmptyCell s i ∷ xs) ys = sweepings-append xs ys
sweepings-append (Pulled number line ∷ xs) ys = sweepings-append xs ys
sweepings-append (NoPage ∷ xs) ys = sweepings-append xs ys
sweepings-append (CutEntry page pages class ∷ xs) ys = sweepings-append xs ys
sweepings-append (NoCut pages left ∷ xs) ys = sweepings-append xs ys
sweepings-append (Settled number ∷ xs) ys = sweepings-append xs ys
sweepings-append (Popped s p ∷ xs) ys = sweepings-append xs ys
sweepings-append (Pushed s p ∷ xs) ys = sweepings-append xs ys
sweepings-append (Took m line ∷ xs) ys = sweepings-append xs ys
sweepings-append (Gave p m ∷ xs) ys = sweepings-append xs ys
sweepings-append (Found p w ∷ xs) ys = sweepings-append xs ys
sweepings-append (Read w v ∷ xs) ys = sweepings-append xs ys
sweepings-append (Added w v ∷ xs) ys = sweepings-append xs ys

-- ---- counts of full sets, and of others

full_count : (n : ℕ) (f : ℕ → Bool) → ((k : ℕ) → k < n → f k ≡ true) → count_below n f ≡ n
unfolding count_below
full_count zero f h = refl
full_count (suc n) f h = let r = full_count n f (λ k l. h k (omega arith)) in let z = ap Rattle.span_state.specs.Bits.one_if (h n (omega arith)) in omega arith

room_count : (n : ℕ) (f : ℕ → Bool) (k : ℕ) → k < n → f k ≡ false → count_below n f < n
room_count n f k l e = let w = count_below-with n k f l e in let m = count_below-le n (with_bit k f) in omega arith

-- an index is free
abbrev pub HasRoomIn : Span → Type 0
HasRoomIn s = (k : ℕ) × (k < s.count) × (bit_of s.bits k ≡ false)

-- a span is full exactly where as many objects are allocated as it has
counts_full : (s : Span) (kept : ℕ) (full : Bool) → kept ≡ count_below s.count (bit_of s.bits) → (full ≡ true → IsFull s.count (bit_of s.bits)) → (full ≡ false → HasRoomIn s) → eqb kept s.count ≡ full
counts_full s kept true e is room = eq-eqb kept s.count (e ∙ full_count s.count (bit_of s.bits) (is refl))
counts_full s kept false e is room = let r = room refl in let l = room_count s.count (bit_of s.bits) r.0 r.1 r.2 in ne_eqb kept s.count (λ z. omega arith)

-- ---- one part of a call, and two

-- nothing was swept
pub fits-none : (g : ℕ) (kept : ℕ → ℕ) (said : List Entry) (old new : Seen) (lent : List Span) → sweepings said ≡ [] → new.view.own.spans ≡ lent ++ old.view.own.spans → FitsSets g kept said old new
fits-none g kept said old new lent none spans = record { lent = lent; spans = spans; went = subst (λ (l : List Sweeping). AllByRecursion (Went g kept lent said) l) (sym none) tt }

-- one span was swept, and the worker keeps it
pub fits-kept : (g : ℕ) (kept : ℕ → ℕ) (said : List Entry) (old new : Seen) (lent : List Span) (w : Sweeping) → sweepings said ≡ w ∷ [] → new.view.own.spans ≡ lent ++ old.view.own.spans → 0 < kept w.page → FitsSets g kept said old new
fits-kept g kept said old new lent w one spans l = record { lent = lent; spans = spans; went = subst (λ (l : List Sweeping). AllByRecursion (Went g kept lent said) l) (sym one) ((λ z. inl l), tt) }

-- one span was swept, and nothing of it kept
pub fits-emptied : (g : ℕ) (kept : ℕ → ℕ) (said : List Entry) (old new : Seen) (lent : List Span) (w : Sweeping) → sweepings said ≡ w ∷ [] → new.view.own.spans ≡ lent ++ old.view.own.spans → w.kept ≡ 0 → FitsSets g kept said old new
fits-emptied g kept said old new lent w one spans e = record { lent = lent; spans = spans; went = subst (λ (l : List Sweeping). AllByRecursion (Went g kept lent said) l) (sym one) ((λ z. absurd (omega arith)), tt) }

-- one span was swept, and pushed to a set that it fits
pub fits-pushed : (g : ℕ) (kept : ℕ → ℕ) (said : List Entry) (old new : Seen) (rest : List Span) (w : Sweeping) (s : Span) (full : Bool) → sweepings said ≡ w ∷ [] → new.view.own.spans ≡ s ∷ (rest ++ old.view.own.spans)
    → s.page ≡ w.page → w.kept ≡ count_below s.count (bit_of s.bits) → (full ≡ true → IsFull s.count (bit_of s.bits)) → (full ≡ false → HasRoomIn s) → 0 < many (is_push_of (swept_set g s.class (one_if full)) w.page) said → FitsSets g kept said old new
fits-pushed g kept said old new rest w s full one spans at e is room l = record {
  lent = s ∷ rest;
  spans = spans;
  went = subst (λ (l : List Sweeping). AllByRecursion (Went g kept (s ∷ rest) said) l) (sym one) (
    (λ z. inr (
      s,
      (0, omega arith, refl),
      at,
      subst (λ (f : Bool). 0 < many (is_push_of (swept_set g s.class (one_if f)) w.page) said) (sym (counts_full s w.kept full e is room)) l,
    )),
    tt,
  );
}

all_map : (P Q : Sweeping → Type 0) → ((w : Sweeping) → P w → Q w) → (l : List Sweeping) → AllByRecursion P l → AllByRecursion Q l
all_map P Q f [] a = tt
all_map P Q f (w ∷ l) a = (f w a.0, all_map P Q f l a.1)

all_both : (P : Sweeping → Type 0) (xs ys : List Sweeping) → AllByRecursion P xs → AllByRecursion P ys → AllByRecursion P (xs ++ ys)
all_both P [] ys a b = b
all_both P (x ∷ xs) ys a b = (a.0, all_both P xs ys a.1 b)

-- one part, and then another; what either keeps both keep
pub fits-both : (g : ℕ) (k m n : ℕ → ℕ) (later first : List Entry) (a b d : Seen) → ((p : ℕ) → 0 < k p → 0 < n p) → ((p : ℕ) → 0 < m p → 0 < n p) → FitsSets g k first a b → FitsSets g m later b d → FitsSets g n (later ++ first) a d
fits-both g k m n later first a b d keeps keeps' x y = record {
  lent = y.lent ++ x.lent;
  spans = y.spans ∙ ap (λ (l : List Span). y.lent ++ l) x.spans ∙ sym (append_assoc y.lent x.lent a.view.own.spans);
  went = subst (λ (l : List Sweeping). AllByRecursion (Went g n (y.lent ++ x.lent) (later ++ first)) l) (sym (sweepings-append later first))
      (all_both (Went g n (y.lent ++ x.lent) (later ++ first)) (sweepings later) (sweepings first)
      (all_map (Went g m y.lent later) (Went g n (y.lent ++ x.lent) (later ++ first)) from_later (sweepings later) y.went)
      (all_map (Went g k x.lent first) (Went g n (y.lent ++ x.lent) (later ++ first)) from_first (sweepings first) x.went));
}
  where
    from_later : (w : Sweeping) → Went g m y.lent later w → Went g n (y.lent ++ x.lent) (later ++ first) w
    from_later w f l = ⊎_elim
        (λ (z : 0 < m w.page). inl (keeps' w.page z))
        (λ (z : WentToSet g y.lent later w). inr (z.0, Contains-append_left y.lent x.lent z.0 z.1, z.2, (let e = many-append (is_push_of (swept_set g z.0.class (one_if (eqb w.kept z.0.count))) w.page) later first in let i = z.3 in omega arith)))
        (f l)

    from_first : (w : Sweeping) → Went g k x.lent first w → Went g n (y.lent ++ x.lent) (later ++ first) w
    from_first w f l = ⊎_elim
        (λ (z : 0 < k w.page). inl (keeps w.page z))
        (λ (z : WentToSet g x.lent first w). inr (z.0, Contains-append_right y.lent x.lent z.0 z.1, z.2, (let e = many-append (is_push_of (swept_set g z.0.class (one_if (eqb w.kept z.0.count))) w.page) later first in let i = z.3 in omega arith)))
        (f l)

-- what is kept, more is kept
pub fits-more : (g : ℕ) (k n : ℕ → ℕ) (said : List Entry) (a b : Seen) → ((p : ℕ) → 0 < k p → 0 < n p) → FitsSets g k said a b → FitsSets g n said a b
fits-more g k n said a b keeps x = record {
  lent = x.lent;
  spans = x.spans;
  went = all_map (Went g k x.lent said) (Went g n x.lent said) (λ w f l. ⊎_elim (λ (z : 0 < k w.page). inl (keeps w.page z)) (λ (z : WentToSet g x.lent said w). inr z) (f l)) (sweepings said) x.went;
}
