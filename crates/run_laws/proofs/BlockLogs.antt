-- Logs that tell of blocks, and journals that grow by the lines of a block.
use Rattle.std.proofs.Common.{◌≡◌, ◌≢◌, ℕ, ◌+◌, ◌<◌, ◌⊎◌, inl, inr, Bool, true, false, true≢false, cond, ◌||◌, eqb, eq-eqb, ne_eqb, List, [], ◌∷◌, ◌++◌, map, sym, refl, ap, ◌∙◌, subst, arith}
use Rattle.std.specs.Prelude.{Option, Some, None}
use Rattle.std.specs.List.{filter}
use Rattle.std.proofs.lemmas.Bool.{cases_eq, cases_Bool, eqb-true}
use Rattle.page_bitmap.specs.declared.line.Line.{Line}
use Rattle.page_alloc.specs.Lists.{In, IsNumber}
use Rattle.page_alloc.specs.Lives.{Life, others, open_lives}
use Rattle.page_alloc.specs.Owners.{cached, is_number, owner, within}
use Rattle.sweep_laws.specs.Counts.{one_if}
use Rattle.worker_log.specs.declared.Entry.{Entry}
use Rattle.run_laws.specs.Lists.{begins_at}
use Rattle.run_laws.specs.Steps.{put}
use Rattle.run_laws.specs.Blocks.{CutOut, OutBlock, cut_line, cut_times, cuttings, is_of_cache, out_of, pullings, settlings, told_lines}

-- the same block
pub same_block : (a b : OutBlock) → Some a ≡ Some b → a ≡ b
same_block a b s = cc

-- two logs tell the same of blocks
pub record SameBlocks (new old : List Entry) : Type 0 where
  pub out : out_of new ≡ out_of old
  pub lines : (cycle w : ℕ) → told_lines cycle w new ≡ told_lines cycle w old
  pub pullings : pullings new ≡ pullings old
  pub settlings : settlings new ≡ settlings old
  pub cuts : cuttings new ≡ cuttings old

pub same_blocks : (log : List Entry) → SameBlocks log log
same_blocks log = record { out = refl; lines = λ cycle w. refl; pullings = refl; settlings = refl; cuts = refl }

-- one log gains an entry that tells nothing of blocks
pub same_put : (logs : ℕ → List Entry) (w : ℕ) (x : Entry) → SameBlocks (x ∷ logs w) (logs w) → (v : ℕ) → SameBlocks (put logs w (x ∷ logs w) v) (logs v)
same_put logs w x same v = elim (cases_eq v w) [
  | inl is ↦ rw (eq-eqb v w is) (subst (λ (u : ℕ). SameBlocks (x ∷ logs w) (logs u)) (sym is) same)
  | inr isnt ↦ rw (ne_eqb v w isnt) (same_blocks (logs v))
]

-- the log of a worker, and of another one, where one log changes
pub put_own : {A : Type 0} (f : ℕ → A) (w : ℕ) (x : A) (v : ℕ) → v ≡ w → put f w x v ≡ x
put_own f w x v is = rw (eq-eqb v w is) refl

pub put_else : {A : Type 0} (f : ℕ → A) (w : ℕ) (x : A) (v : ℕ) → v ≢ w → put f w x v ≡ f v
put_else f w x v isnt = rw (ne_eqb v w isnt) refl

-- ---- numbers

pub number_more : (more past : List Line) (n : ℕ) (line : Line) → IsNumber n line past → IsNumber n line (more ++ past)
number_more [] past n line h = h
number_more (x ∷ more) past n line h = inr (number_more more past n line h)

pub same_numbers : (n m : ℕ) (o : Option ℕ) → is_number n o ≡ true → is_number m o ≡ true → n ≡ m
same_numbers n m None a b = absurd (true≢false (sym a))
same_numbers n m (Some k) a b = sym (eqb-true k n a) ∙ eqb-true k m b

-- ---- the lines of cuts

module _ (cycle w : ℕ) where
  -- they are of their processor alone
  pub cuts_own : (cuts : List CutOut) → filter (is_of_cache w) (map (cut_line cycle w) cuts) ≡ map (cut_line cycle w) cuts
  cuts_own [] = refl
  cuts_own (x ∷ cuts) = rw (eq-eqb w w refl) (ap (λ (l : List Line). cut_line cycle w x ∷ l) (cuts_own cuts))

  pub cuts_others : (v : ℕ) → w ≢ v → (cuts : List CutOut) → filter (is_of_cache v) (map (cut_line cycle w) cuts) ≡ []
  cuts_others v isnt [] = refl
  cuts_others v isnt (x ∷ cuts) = rw (ne_eqb w v isnt) (cuts_others v isnt cuts)

  module _ (past : List Line) where
    -- the pages of cuts leave the page cache
    pub cuts_cached : (p : ℕ) (cuts : List CutOut) → ((cut_times p cuts ≡ 0) × (cached (map (cut_line cycle w) cuts ++ past) p ≡ cached past p)) ⊎ ((0 < cut_times p cuts) × (cached (map (cut_line cycle w) cuts ++ past) p ≡ None))
    cuts_cached p [] = inl (refl, refl)
    cuts_cached p (x ∷ cuts) = go (within p x.page x.pages) (cuts_cached p cuts)
      where
        go : (b : Bool) → ((cut_times p cuts ≡ 0) × (cached (map (cut_line cycle w) cuts ++ past) p ≡ cached past p)) ⊎ ((0 < cut_times p cuts) × (cached (map (cut_line cycle w) cuts ++ past) p ≡ None))
            → ((one_if b + cut_times p cuts ≡ 0) × (cond b None (cached (map (cut_line cycle w) cuts ++ past) p) ≡ cached past p)) ⊎ ((0 < one_if b + cut_times p cuts) × (cond b None (cached (map (cut_line cycle w) cuts ++ past) p) ≡ None))
        go true r = inr (omega arith, refl)
        go false (inl r) = let a = r.0 in inl (omega arith, r.1)
        go false (inr r) = let a = r.0 in inr (omega arith, r.1)

    -- and have the spans as owners
    pub cuts_owner : (p : ℕ) (cuts : List CutOut) → ((cut_times p cuts ≡ 0) × (owner (map (cut_line cycle w) cuts ++ past) p ≡ owner past p))
        ⊎ ((x : CutOut) × In x cuts × (within p x.page x.pages ≡ true) × (owner (map (cut_line cycle w) cuts ++ past) p ≡ Some x.page))
    cuts_owner p [] = inl (refl, refl)
    cuts_owner p (x ∷ cuts) = elim (cases_Bool (within p x.page x.pages)) [
      | inl on ↦ inr (x, inl refl, on, rw on refl)
      | inr off ↦ rest off (cuts_owner p cuts)
    ]
      where
        rest : within p x.page x.pages ≡ false → ((cut_times p cuts ≡ 0) × (owner (map (cut_line cycle w) cuts ++ past) p ≡ owner past p))
            ⊎ ((y : CutOut) × In y cuts × (within p y.page y.pages ≡ true) × (owner (map (cut_line cycle w) cuts ++ past) p ≡ Some y.page))
            → ((one_if (within p x.page x.pages) + cut_times p cuts ≡ 0) × (cond (within p x.page x.pages) (Some x.page) (owner (map (cut_line cycle w) cuts ++ past) p) ≡ owner past p))
            ⊎ ((y : CutOut) × In y (x ∷ cuts) × (within p y.page y.pages ≡ true) × (cond (within p x.page x.pages) (Some x.page) (owner (map (cut_line cycle w) cuts ++ past) p) ≡ Some y.page))
        rest off (inl r) = let a = r.0 in let b = ap one_if off in inl (omega arith, rw off r.1)
        rest off (inr r) = inr (r.0, inr r.1, r.2, rw off r.3)

    -- a life of the longer journal is one of the old one, or that of a cut
    pub cuts_lives : (cuts : List CutOut) (life : Life) → In life (open_lives (map (cut_line cycle w) cuts ++ past))
        → In life (open_lives past) ⊎ ((x : CutOut) × In x cuts × (life.page ≡ x.page) × (life.pages ≡ x.pages) × (life.class ≡ x.class))
    cuts_lives [] life h = inl h
    cuts_lives (x ∷ cuts) life (inl is) = inr (x, inl refl, sym (ap (λ (l : Life). l.page) is), sym (ap (λ (l : Life). l.pages) is), sym (ap (λ (l : Life). l.class) is))
    cuts_lives (x ∷ cuts) life (inr h) = elim (cuts_lives cuts life h) [ inl old ↦ inl old | inr of ↦ inr (of.0, inr of.1, of.2, of.3, of.4) ]

    -- a life begins where one began, and where a cut does
    pub cuts_begin : (cuts : List CutOut) (p : ℕ) → begins_at p (open_lives past) ≡ true → begins_at p (open_lives (map (cut_line cycle w) cuts ++ past)) ≡ true
    cuts_begin [] p is = is
    cuts_begin (x ∷ cuts) p is = or_right (eqb x.page p) (cuts_begin cuts p is)
      where
        or_right : (a : Bool) {b : Bool} → b ≡ true → a || b ≡ true
        or_right true is = refl
        or_right false is = is

    pub cut_begins : (cuts : List CutOut) (x : CutOut) → In x cuts → begins_at x.page (open_lives (map (cut_line cycle w) cuts ++ past)) ≡ true
    cut_begins [] x h = absurd h
    cut_begins (y ∷ cuts) x (inl is) = rw (eq-eqb y.page x.page (ap (λ (z : CutOut). z.page) is)) refl
    cut_begins (y ∷ cuts) x (inr h) = or_right (eqb y.page x.page) (cut_begins cuts x h)
      where
        or_right : (a : Bool) {b : Bool} → b ≡ true → a || b ≡ true
        or_right true is = refl
        or_right false is = is

-- a page at which a life begins that is not given back
pub others_begin : (p q : ℕ) (ls : List Life) → q ≢ p → begins_at q ls ≡ true → begins_at q (others p ls) ≡ true
others_begin p q [] ne is = absurd (true≢false (sym is))
others_begin p q (l ∷ ls) ne is = elim (cases_Bool (eqb l.page p)) [
  | inl here ↦ (
      let other : l.page ≢ q = λ e. ne (sym e ∙ eqb-true l.page p here) in
      let is' : begins_at q ls ≡ true = rw (ne_eqb l.page q other) at is in
      rw here (others_begin p q ls ne is'))
  | inr there ↦ rw there (keep (eqb l.page q) is (others_begin p q ls ne))
]
  where
    keep : (b : Bool) → b || begins_at q ls ≡ true → (begins_at q ls ≡ true → begins_at q (others p ls) ≡ true) → b || begins_at q (others p ls) ≡ true
    keep true s rest = refl
    keep false s rest = rest s
