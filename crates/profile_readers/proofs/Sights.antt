-- What a watcher keeps, as it knows of more publishes and keeps more sights.
use Rattle.std.proofs.Common.{◌≡◌, ℕ, ◌<◌, ◌≤◌, ◌^◌, Bool, true, false, List, [], ◌∷◌, ◌++◌, length, take, take_all, Option, Some, None, Result, Ok, Err, IfOk, refl, sym, ◌∙◌, ap, subst, arith, ◌⊎◌, inl, inr}
use Rattle.std.proofs.lemmas.List.{append-nil, take-append-le}
use mathlib.Core.List.{IsPrefix}
use Rattle.std.specs.List.{sum_by}
use Rattle.profile_cycle.specs.declared.counts.Count.{Count}
use Rattle.profile_readers.specs.declared.viewer.Sight.{Sight}
use Rattle.profile_readers.specs.History.{profile_after}
use Rattle.profile_readers.specs.Sights.{AreSights, HasReached, IsNewer, IsNewest, IsSight, RiseTo, allocs_of, frees_of}

abbrev pub Publishes : Type 0
Publishes = List (List Count)

-- one more sight with a greater number
pub rise-more : (n : ℕ) (sights : List Sight) (s : Sight) → RiseTo n sights → n < s.k → RiseTo s.k (sights ++ s ∷ [])
rise-more n [] s rise lt = absurd rise
rise-more n (x ∷ []) s rise lt = ((let same : x.k ≡ n = rise in omega arith), refl)
rise-more n (x ∷ y ∷ sights) s rise lt = (rise.0, rise-more n (y ∷ sights) s rise.1 lt)

pub newest-more : (newest : Option ℕ) (sights : List Sight) (s : Sight) → IsNewest newest sights → IsNewer newest s.k → RiseTo s.k (sights ++ s ∷ [])
newest-more None sights s none newer = subst (λ (l : List Sight). RiseTo s.k (l ++ s ∷ [])) (sym none) refl
newest-more (Some n) sights s rise newer = rise-more n sights s rise newer

-- the first number is at most the last
rise-first : (n : ℕ) (s : Sight) (sights : List Sight) → RiseTo n (s ∷ sights) → s.k ≤ n
rise-first n s [] rise = omega (arith, rise)
rise-first n s (t ∷ sights) rise = let le = rise-first n t sights rise.1 in let lt = rise.0 in omega arith

rise-rest : (n : ℕ) (s t : Sight) (sights : List Sight) → RiseTo n (s ∷ t ∷ sights) → RiseTo n (t ∷ sights)
rise-rest n s t sights rise = rise.1

-- a sight of the first publishes is one of more of them, and the other way where they have its number
sight-as : (buckets : ℕ) (p q : Publishes) (s : Sight) → s.k ≤ length q → take s.k q ≡ take s.k p → IsSight buckets p s → IsSight buckets q s
sight-as buckets p q s past same is = record { past = past; allocs = rw same is.allocs; frees = rw same is.frees }

prefix-take : (p q : Publishes) (k : ℕ) → IsPrefix p q → k ≤ length p → take k q ≡ take k p
prefix-take p q k pre le = ap (λ (l : Publishes). take k l) (sym pre.1) ∙ take-append-le k p pre.0 le

prefix-length : (p q : Publishes) → IsPrefix p q → length p ≤ length q
prefix-length [] q pre = omega arith
prefix-length (x ∷ p) [] pre = absurd (cc (pre.1))
prefix-length (x ∷ p) (y ∷ q) pre = let le = prefix-length p q (pre.0, cc (pre.1)) in omega arith

pub sights-grow : (buckets : ℕ) (p q : Publishes) (sights : List Sight) → IsPrefix p q → AreSights buckets p sights → AreSights buckets q sights
sights-grow buckets p q [] pre are = tt
sights-grow buckets p q (s ∷ sights) pre are =
    let past = are.0.past in
    let long = prefix-length p q pre in (
      sight-as buckets p q s (omega arith) (prefix-take p q s.k pre past) are.0,
      sights-grow buckets p q sights pre are.1,
    )

-- sights up to a number are those of as many publishes
pub sights-back : (buckets : ℕ) (p q : Publishes) (sights : List Sight) → IsPrefix p q → RiseTo (length p) sights → AreSights buckets q sights → AreSights buckets p sights
sights-back buckets p q [] pre rise are = tt
sights-back buckets p q (s ∷ []) pre rise are =
    let le = rise-first (length p) s [] rise in (sight-as buckets q p s le (sym (prefix-take p q s.k pre le)) are.0, tt)
sights-back buckets p q (s ∷ t ∷ sights) pre rise are =
    let le = rise-first (length p) s (t ∷ sights) rise in (
      sight-as buckets q p s le (sym (prefix-take p q s.k pre le)) are.0,
      sights-back buckets p q (t ∷ sights) pre rise.1 are.1,
    )

pub sights-more : (buckets : ℕ) (p : Publishes) (sights : List Sight) (s : Sight) → AreSights buckets p sights → IsSight buckets p s → AreSights buckets p (sights ++ s ∷ [])
sights-more buckets p [] s are is = (is, tt)
sights-more buckets p (x ∷ sights) s are is = (are.0, sights-more buckets p sights s are.1 is)

-- what is seen after all publishes is a sight of them
pub whole-sight : (buckets : ℕ) (p : Publishes) (counts : List Count) (s : Sight) → s.k ≡ length p → counts ≡ profile_after buckets p
    → (sum_by allocs_of counts < 2 ^ 64 → s.allocs ≡ sum_by allocs_of counts) → (sum_by frees_of counts < 2 ^ 64 → s.frees ≡ sum_by frees_of counts) → IsSight buckets p s
whole-sight buckets p counts s number is allocs frees =
    let all : take s.k p ≡ p = take_all s.k p (omega arith) in
    let same : profile_after buckets (take s.k p) ≡ counts = ap (λ (l : Publishes). profile_after buckets l) all ∙ sym is in
    record { past = omega arith; allocs = rw same allocs; frees = rw same frees }

pub all-sights : {E : Type 0} (buckets : ℕ) (p q : Publishes) (n : ℕ) (r : Result (List Sight) E) → IsPrefix p q → n ≡ length p → IfOk r (λ sights. RiseTo n sights) → IfOk r (λ sights. AreSights buckets q sights) → IfOk r (λ sights. AreSights buckets p sights)
all-sights buckets p q n (Ok sights) pre same rise are = sights-back buckets p q sights pre (subst (λ (k : ℕ). RiseTo k sights) same rise) are
all-sights buckets p q n (Err e) pre same rise are = tt

-- the last number is that of publishes that are known
rise-past : (buckets n : ℕ) (p : Publishes) (s : Sight) (sights : List Sight) → RiseTo n (s ∷ sights) → AreSights buckets p (s ∷ sights) → n ≤ length p
rise-past buckets n p s [] rise are = let past = are.0.past in let same : s.k ≡ n = rise in omega arith
rise-past buckets n p s (t ∷ sights) rise are = rise-past buckets n p t sights rise.1 are.1

rise-to : (buckets n k : ℕ) (p : Publishes) (sights : List Sight) → k ≡ length p → AreSights buckets p sights → RiseTo n sights → k ≤ n → RiseTo (length p) sights
rise-to buckets n k p [] is are rise le = absurd rise
rise-to buckets n k p (s ∷ sights) is are rise le =
    let past = rise-past buckets n p s sights rise are in
    let same : n ≡ length p = omega arith in
    subst (λ (m : ℕ). RiseTo m (s ∷ sights)) same rise

-- where the last sight is no older than all that is known, it has that number
pub all-reached : (buckets : ℕ) (p : Publishes) (sights : List Sight) (newest : Option ℕ) (k : ℕ) → k ≡ length p → AreSights buckets p sights → IsNewest newest sights → HasReached k newest → RiseTo (length p) sights
all-reached buckets p sights None k is are none reached = absurd reached
all-reached buckets p sights (Some n) k is are rise reached = rise-to buckets n k p sights is are rise reached

-- what is kept begins with what was kept
pub more-kept : (old new : List Sight) (s : Sight) → (new ≡ old) ⊎ (new ≡ old ++ s ∷ []) → IsPrefix old new
more-kept old new s kept = elim kept [
  | inl same ↦ ([], append-nil old ∙ sym same)
  | inr more ↦ (s ∷ [], sym more)
]

pub kept-first : {E : Type 0} (old new : List Sight) (r : Result (List Sight) E) → IsPrefix old new → IfOk r (λ sights. sights ≡ new) → IfOk r (λ sights. IsPrefix old sights)
kept-first old new (Ok sights) pre same = subst (λ (l : List Sight). IsPrefix old l) (sym same) pre
kept-first old new (Err e) pre same = tt

pub unrefused : {E : Type 0} (old new : Bool) (r : Result (List Sight) E) → (old ≡ true → new ≡ true) → IfOk r (λ sights. new ≡ false) → IfOk r (λ sights. old ≡ false)
unrefused false new (Ok sights) stays not = refl
unrefused true new (Ok sights) stays not = absurd (cc (stays refl, not))
unrefused old new (Err e) stays not = tt
