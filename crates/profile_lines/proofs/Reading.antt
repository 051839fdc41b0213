-- Lines that are read one after another.
use Rattle.std.proofs.Common.{◌≡◌, ℕ, zero, suc, ◌+◌, ◌<◌, List, [], ◌∷◌, ◌++◌, length, map, get_or, take, drop, set, refl, sym, ◌∙◌, ap, arith, inl, inr}
use Rattle.std.proofs.Math.Dec.{ltb}
use Rattle.std.proofs.lemmas.Bool.{cases_Bool}
use Rattle.std.proofs.lemmas.List.{append_assoc, drop_more, length-map, length-take-le, map-append, set_at, take_more}
use Rattle.page_alloc.specs.Lists.{In}
use Rattle.profile_cycle.specs.declared.buckets.Bucket.{Bucket}
use Rattle.profile_cycle.specs.declared.calls.Call.{Call}
use Rattle.profile_cycle.specs.declared.counts.Count.{Count}
use Rattle.profile_cycle.specs.History.{published_allocs}
use Rattle.cycle_history.specs.declared.Prof.{Prof}
use Rattle.profile_lines.specs.Read.{count_of, is_same_count, line_of, all_lines, changed_lines}

-- an item at a place is one of the list
pub in-at : {X : Type 0} (xs : List X) (i : ℕ) (d : X) → i < length xs → In (get_or xs i d) xs
in-at [] i d lt = absurd (omega arith)
in-at (x ∷ xs) zero d lt = inl refl
in-at (x ∷ xs) (suc i) d lt = inr (in-at xs i d (omega arith))

all-append : (buckets : List Bucket) (calls : List Call) (mark : ℕ) (xs ys : List ℕ)
    → all_lines buckets calls mark (xs ++ ys) ≡ all_lines buckets calls mark xs ++ all_lines buckets calls mark ys
all-append buckets calls mark [] ys = refl
all-append buckets calls mark (n ∷ xs) ys =
    let rest = all-append buckets calls mark xs ys in
    elim (cases_Bool (ltb 0 (published_allocs n calls))) [
      | inl on ↦ rw on (ap (λ (l : List Prof). line_of buckets mark n (count_of calls n) ∷ l) rest)
      | inr off ↦ rw off rest
    ]

pub all-next : (buckets : List Bucket) (calls : List Call) (mark : ℕ) (order : List ℕ) (i : ℕ) (start old new : List Prof) → i < length order
    → old ≡ start ++ all_lines buckets calls mark (take i order) → new ≡ old ++ all_lines buckets calls mark (get_or order i 0 ∷ [])
    → new ≡ start ++ all_lines buckets calls mark (take (i + 1) order)
all-next buckets calls mark order i start old new lt so then =
    let f : List ℕ → List Prof = λ l. all_lines buckets calls mark l in
    then ∙ ap (λ (l : List Prof). l ++ f (get_or order i 0 ∷ [])) so ∙ append_assoc start (f (take i order)) (f (get_or order i 0 ∷ []))
    ∙ ap (λ (l : List Prof). start ++ l) (sym (all-append buckets calls mark (take i order) (get_or order i 0 ∷ [])) ∙ ap f (sym (take_more order i 0 lt)))

changed-append : (buckets : List Bucket) (calls : List Call) (mark : ℕ) (xs ys : List ℕ) (us vs : List Count) → length us ≡ length xs
    → changed_lines buckets calls mark (xs ++ ys) (us ++ vs) ≡ changed_lines buckets calls mark xs us ++ changed_lines buckets calls mark ys vs
changed-append buckets calls mark [] ys [] vs same = refl
changed-append buckets calls mark [] ys (u ∷ us) vs same = absurd (omega arith)
changed-append buckets calls mark (n ∷ xs) ys [] vs same = absurd (omega arith)
changed-append buckets calls mark (n ∷ xs) ys (u ∷ us) vs same =
    let rest = changed-append buckets calls mark xs ys us vs (omega arith) in
    elim (cases_Bool (is_same_count u (count_of calls n))) [
      | inl on ↦ rw on rest
      | inr off ↦ rw off (ap (λ (l : List Prof). line_of buckets mark n (count_of calls n) ∷ l) rest)
    ]

pub changed-next : (buckets : List Bucket) (calls : List Call) (mark : ℕ) (order : List ℕ) (before : List Count) (i : ℕ) (d : Count) (start old new : List Prof) → i < length order
    → length before ≡ length order → old ≡ start ++ changed_lines buckets calls mark (take i order) (take i before)
    → new ≡ old ++ changed_lines buckets calls mark (get_or order i 0 ∷ []) (get_or before i d ∷ [])
    → new ≡ start ++ changed_lines buckets calls mark (take (i + 1) order) (take (i + 1) before)
changed-next buckets calls mark order before i d start old new lt same so then =
    let f : List ℕ → List Count → List Prof = λ l m. changed_lines buckets calls mark l m in
    let one = f (get_or order i 0 ∷ []) (get_or before i d ∷ []) in
    let a = length-take-le i order (omega arith) in
    let b = length-take-le i before (omega arith) in
    then ∙ ap (λ (l : List Prof). l ++ one) so ∙ append_assoc start (f (take i order) (take i before)) one
    ∙ ap (λ (l : List Prof). start ++ l) (
    sym (changed-append buckets calls mark (take i order) (get_or order i 0 ∷ []) (take i before) (get_or before i d ∷ []) (omega arith))
    ∙ ap (λ (l : List ℕ). f l (take i before ++ get_or before i d ∷ [])) (sym (take_more order i 0 lt))
    ∙ ap (λ (l : List Count). f (take (i + 1) order) l) (sym (take_more before i d (omega arith))))

-- what was read stands in front of what is still as before
pub before-at : (f : ℕ → Count) (order : List ℕ) (old now : List Count) (i : ℕ) (d : Count) → i < length order → length old ≡ length order
    → now ≡ map f (take i order) ++ drop i old → get_or now i d ≡ get_or old i d
before-at f order old now i d lt same is =
    let here = drop_more old i d (omega arith) in
    let len : length (map f (take i order)) ≡ i = length-map (take i order) f ∙ length-take-le i order (omega arith) in
    ap (λ (l : List Count). get_or l i d) (is ∙ ap (λ (l : List Count). map f (take i order) ++ l) here)
    ∙ at-front (map f (take i order)) (get_or old i d) (drop (i + 1) old) i d len
  where
    at-front : (xs : List Count) (y : Count) (ys : List Count) (k : ℕ) (e : Count) → length xs ≡ k → get_or (xs ++ y ∷ ys) k e ≡ y
    at-front [] y ys zero e len = refl
    at-front [] y ys (suc k) e len = absurd (omega arith)
    at-front (x ∷ xs) y ys zero e len = absurd (omega arith)
    at-front (x ∷ xs) y ys (suc k) e len = at-front xs y ys k e (omega arith)

pub before-next : (f : ℕ → Count) (order : List ℕ) (old now : List Count) (i : ℕ) (d y : Count) → i < length order → length old ≡ length order
    → now ≡ map f (take i order) ++ drop i old → y ≡ f (get_or order i 0) → set now i y ≡ map f (take (i + 1) order) ++ drop (i + 1) old
before-next f order old now i d y lt same is one =
    let here = drop_more old i d (omega arith) in
    let len : length (map f (take i order)) ≡ i = length-map (take i order) f ∙ length-take-le i order (omega arith) in
    ap (λ (l : List Count). set l i y) (is ∙ ap (λ (l : List Count). map f (take i order) ++ l) here)
    ∙ set_at (map f (take i order)) (get_or old i d) (drop (i + 1) old) y i len
    ∙ ap (λ (z : Count). map f (take i order) ++ z ∷ drop (i + 1) old) one
    ∙ sym (append_assoc (map f (take i order)) (f (get_or order i 0) ∷ []) (drop (i + 1) old))
    ∙ ap (λ (l : List Count). l ++ drop (i + 1) old) (sym (map-append f (take i order) (get_or order i 0 ∷ [])) ∙ ap (λ (l : List ℕ). map f l) (sym (take_more order i 0 lt)))
