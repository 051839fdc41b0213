-- The flagged objects of a cycle are its samples, bucket by bucket.
use Rattle.std.proofs.Common.{◌≡◌, ℕ, ◌+◌, ◌≤◌, Bool, false, ◌&&◌, eqb, List, [], ◌∷◌, map, length, Option, Some, None, refl, sym, ◌∙◌, ap, arith, inl, inr}
use Rattle.std.specs.Prelude.{position}
use Rattle.std.specs.List.{AllByRecursion}
use Rattle.std.proofs.lemmas.Bool.{cases_Bool, eq-eqb, and_right}
use Rattle.page_alloc.specs.Lists.{count, one_if}
use Rattle.trace_reader.specs.declared.trace.Event.{Event}
use Rattle.cycle_history.specs.declared.Answer.{Answer}
use Rattle.cycle_history.specs.declared.Answer.TheVariants.{Placed, Zero, Missed}
use Rattle.cycle_history.specs.Objects.{Object}
use Rattle.cycle_history.specs.Rules.{IsObject}
use Rattle.cycle_history.proofs.Plain.{request_in}
use Rattle.profile_cycle.specs.declared.buckets.Bucket.{Bucket}
use Rattle.profile_cycle.specs.Naming.{is_same}
use Rattle.profile_cycle.specs.Sampling.{Countdown}
use Rattle.run_laws.specs.Asked.{AreAnsweredFrom}
use Rattle.cycle_history.specs.Profile.{Samples, is_sample}
use Rattle.sample_laws.specs.By.{answers_by, events_by}
use Rattle.sample_laws.specs.Counted.{Knows, of_number, sampled_counts}
use Rattle.sample_laws.specs.Countdowns.{flag, flags, spent}
use Rattle.sample_laws.specs.Numbers.{IsNamed, number_of, pair_of}
use Rattle.sample_laws.proofs.Numbered.{number-is, number-none}
use Rattle.sample_laws.proofs.Sampled.{first-of, placed-slot, placed-some}

-- how many flagged events pass a test
abbrev flagged : (Event → Bool) → List Bool → List Event → ℕ
flagged test [] events = 0
flagged test (f ∷ given) [] = 0
flagged test (f ∷ given) (e ∷ events) = one_if (f && test e) + flagged test given events

-- each processor's flags are those of its countdown
abbrev pub AreFlags : (ℕ → Countdown) → List Event → List Answer → List Bool → Type 0
AreFlags c events answers given = (w : ℕ) → answers_by w events given ≡ flags (c w) (events_by w events) (answers_by w events answers)

-- the newest event's flag
pub flag-first : (c : ℕ → Countdown) (e : Event) (events : List Event) (a : Answer) (answers : List Answer) (f : Bool) (given : List Bool) → AreFlags c (e ∷ events) (a ∷ answers) (f ∷ given)
    → f ≡ flag (spent (c e.proc) (events_by e.proc events) (answers_by e.proc events answers)) e a
flag-first c e events a answers f given h =
    let on = eq-eqb e.proc e.proc refl in
    let both : f ∷ answers_by e.proc events given ≡ flag (spent (c e.proc) (events_by e.proc events) (answers_by e.proc events answers)) e a ∷ flags (c e.proc) (events_by e.proc events) (answers_by e.proc events answers) = rw on at (h e.proc) in
    (first-of f (flag (spent (c e.proc) (events_by e.proc events) (answers_by e.proc events answers)) e a) (answers_by e.proc events given) (flags (c e.proc) (events_by e.proc events) (answers_by e.proc events answers)) both).0

-- and those of the older ones
pub flags-rest : (c : ℕ → Countdown) (e : Event) (events : List Event) (a : Answer) (answers : List Answer) (f : Bool) (given : List Bool) → AreFlags c (e ∷ events) (a ∷ answers) (f ∷ given) → AreFlags c events answers given
flags-rest c e events a answers f given h w = elim (cases_Bool (eqb e.proc w)) [
  | inl on ↦ (
      let both : f ∷ answers_by w events given ≡ flag (spent (c w) (events_by w events) (answers_by w events answers)) e a ∷ flags (c w) (events_by w events) (answers_by w events answers) = rw on at (h w) in
      (first-of f (flag (spent (c w) (events_by w events) (answers_by w events answers)) e a) (answers_by w events given) (flags (c w) (events_by w events) (answers_by w events answers)) both).1)
  | inr off ↦ rw off at (h w)
]

-- the samples are the flagged events of their pair
samples-flagged : (s : Samples) (known : List Bucket) (b : Bucket) (test : Event → Bool) (cycle n : ℕ) (c : ℕ → Countdown) (events : List Event) (answers : List Answer) (given : List Bool) (news : List Object)
    → ((e : Event) → IsNamed known e → 1 ≤ e.size → test e ≡ is_same (pair_of e) b) → AreAnsweredFrom n (map (request_in cycle) events) news → map (λ (o : Object). o.answer) news ≡ answers → Knows s events given news
    → length given ≡ length events → AllByRecursion (IsNamed known) events → AreFlags c events answers given → flagged test given events ≡ count (is_sample s b) news
samples-flagged s known b test cycle n c [] answers [] [] tests asked printed knows long named flagged_are = refl
samples-flagged s known b test cycle n c [] answers (f ∷ given) [] tests asked printed knows long named flagged_are = absurd (omega arith)
samples-flagged s known b test cycle n c [] answers given (o ∷ news) tests asked printed knows long named flagged_are = absurd asked
samples-flagged s known b test cycle n c (e ∷ events) answers given [] tests asked printed knows long named flagged_are = absurd asked
samples-flagged s known b test cycle n c (e ∷ events) answers [] (o ∷ news) tests asked printed knows long named flagged_are = absurd knows
samples-flagged s known b test cycle n c (e ∷ events) [] (f ∷ given) (o ∷ news) tests asked printed knows long named flagged_are = absurd (cc)
samples-flagged s known b test cycle n c (e ∷ events) (a ∷ answers) (f ∷ given) (o ∷ news) tests asked printed knows long named flagged_are =
    let told = first-of o.answer a (map (λ (x : Object). x.answer) news) answers printed in
    let rest = samples-flagged s known b test cycle n c events answers given news tests asked.1 told.1 knows.2 (omega arith) named.1 (flags-rest c e events a answers f given flagged_are) in
    let here = ap one_if (by-answer a (spent (c e.proc) (events_by e.proc events) (answers_by e.proc events answers)) asked.0 told.0 (flag-first c e events a answers f given flagged_are)) in
    omega arith
  where
    by-answer : (a : Answer) (d : Countdown) → IsObject (request_in cycle e) (length (map (request_in cycle) events) + n) o → o.answer ≡ a → f ≡ flag d e a → (f && test e) ≡ is_sample s b o
    by-answer (Placed address) d one is flag_is =
        let some = placed-some cycle (length (map (request_in cycle) events) + n) e o address one is in
        let slot = placed-slot cycle (length (map (request_in cycle) events) + n) e o address one is in
        rw (is, knows.0, knows.1, slot, tests e named.0 some) refl
    by-answer Zero d one is flag_is = rw (is, flag_is) refl
    by-answer (Missed line) d one is flag_is = rw (is, flag_is) refl

flagged-numbers : (known : List Bucket) (n : ℕ) (given : List Bool) (events : List Event) → sampled_counts given (map (number_of known) events) n ≡ flagged (λ e. eqb (number_of known e) n) given events
flagged-numbers known n [] events = refl
flagged-numbers known n (f ∷ given) [] = refl
flagged-numbers known n (f ∷ given) (e ∷ events) = ap (λ (k : ℕ). one_if (f && eqb (number_of known e) n) + k) (flagged-numbers known n given events)

flagged-none : (given : List Bool) (events : List Event) → flagged (λ e. false) given events ≡ 0
flagged-none [] events = refl
flagged-none (f ∷ given) [] = refl
flagged-none (f ∷ given) (e ∷ events) = let rest = flagged-none given events in let off = ap one_if (and_right f false refl) in omega arith

pub cycle-counts : (s : Samples) (known : List Bucket) (b : Bucket) (cycle n : ℕ) (c : ℕ → Countdown) (events : List Event) (answers : List Answer) (given : List Bool) (news : List Object)
    → AreAnsweredFrom n (map (request_in cycle) events) news → map (λ (o : Object). o.answer) news ≡ answers → Knows s events given news → length given ≡ length events → AllByRecursion (IsNamed known) events
    → AreFlags c events answers given → of_number (λ k. sampled_counts given (map (number_of known) events) k) (position (is_same b) known) ≡ count (is_sample s b) news
cycle-counts s known b cycle n c events answers given news asked printed knows long named flagged_are = by-place (position (is_same b) known) refl
  where
    by-place : (o : Option ℕ) → position (is_same b) known ≡ o → of_number (λ k. sampled_counts given (map (number_of known) events) k) o ≡ count (is_sample s b) news
    by-place None is =
        sym (flagged-none given events) ∙ samples-flagged s known b (λ e. false) cycle n c events answers given news (λ e named some. number-none known b e is named some) asked printed knows long named flagged_are
    by-place (Some k) is =
        flagged-numbers known k given events
        ∙ samples-flagged s known b (λ e. eqb (number_of known e) k) cycle n c events answers given news (λ e named some. number-is known b k e is named some) asked printed knows long named flagged_are
