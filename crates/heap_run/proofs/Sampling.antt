-- The processors' samples, one processor after another.
use Rattle.std.proofs.Common.{◌≡◌, ◌≢◌, ℕ, suc, ◌+◌, ◌<◌, ◌≤◌, Bool, List, [], ◌∷◌, ◌++◌, reverse, set, take, length, get_or, refl, sym, ◌∙◌, ap, arith, inl, inr}
use Rattle.std.proofs.lemmas.Bool.{cases_eq, cases_lt}
use Rattle.std.proofs.lemmas.List.{get_or_past, get_or_push, get_or_append_left, get_or-set_same, get_or-set_other, length-append, length-reverse, length-take-le, take_more}
use Rattle.trace_reader.specs.declared.trace.Event.{Event}
use Rattle.cycle_history.specs.declared.Answer.{Answer}
use Rattle.profile_cycle.specs.Sampling.{Countdown}
use Rattle.sample_laws.specs.Counted.{all_counts, one_count, sampled_counts}
use Rattle.sample_laws.specs.Countdowns.{flag, flags, spent}
use Rattle.sample_laws.proofs.Parted.{counts-append, sum-same}
use Rattle.proc_cache.specs.Cache.{Cache}
use Rattle.heap_run.specs.Counts.{HaveSampled, HaveSampledTo, countdown_at}
use Rattle.heap_run.specs.Riding.{asked_at, asked_of, given_at, given_of}
use Rattle.heap_run.specs.Turns.{no_cache}
use Rattle.heap_run.proofs.Riding.{asked-long, given-long}

pub sampled-none : (riding : Bool) (queues : List (List Event)) (procs : List Cache) → HaveSampledTo riding queues 0 [] [] procs procs
sampled-none riding queues procs = record { size = refl; flags_are = λ w low. absurd (omega arith); spent_are = λ w low. absurd (omega arith); others = λ w high. refl }

pub sampled-turn : (riding : Bool) (queues : List (List Event)) (k : ℕ) (answers : List (List Answer)) (sampled : List (List Bool)) (old now : List Cache) (c c' : Cache) (events : List Event) (ans : List Answer) (given : List Bool)
    → HaveSampledTo riding queues k answers sampled old now → length answers ≡ k → k < length now → c ≡ get_or now k no_cache → events ≡ get_or queues k []
    → reverse given ≡ flags c.countdown (asked_of riding (reverse events) (reverse ans)) (given_of riding (reverse events) (reverse ans))
    → c'.countdown ≡ spent c.countdown (asked_of riding (reverse events) (reverse ans)) (given_of riding (reverse events) (reverse ans))
    → HaveSampledTo riding queues (k + 1) (answers ++ ans ∷ []) (sampled ++ given ∷ []) old (set now k c')
sampled-turn riding queues k answers sampled old now c c' events ans given was long lt is queue flagged spends_it =
    let mine : c.countdown ≡ countdown_at old k = ap (λ (x : Cache). x.countdown) is ∙ was.others k (omega arith) in
    let a_here : get_or (answers ++ ans ∷ []) k [] ≡ ans = get_or_push answers ans [] k long in
    let s_here : get_or (sampled ++ given ∷ []) k [] ≡ given = get_or_push sampled given [] k was.size in
    let a_old : (w : ℕ) → w < k → get_or (answers ++ ans ∷ []) w [] ≡ get_or answers w [] = λ w low. get_or_append_left answers (ans ∷ []) [] w (omega arith) in
    let s_old : (w : ℕ) → w < k → get_or (sampled ++ given ∷ []) w [] ≡ get_or sampled w [] = λ w low. get_or_append_left sampled (given ∷ []) [] w (let s = was.size in omega arith) in
    record {
      size = (let l = length-append sampled (given ∷ []) in let s = was.size in omega arith);
      flags_are = λ w low. elim (cases_eq w k) [
        | inl same ↦ (
            let there : reverse (get_or (sampled ++ given ∷ []) k []) ≡ flags (countdown_at old k) (asked_at riding queues (answers ++ ans ∷ []) k) (given_at riding queues (answers ++ ans ∷ []) k) = rw (s_here, a_here, sym queue, sym mine) flagged in
            rw same there)
        | inr other ↦ (let below : w < k = omega arith in rw (s_old w below, a_old w below) (was.flags_are w below))
      ];
      spent_are = λ w low. elim (cases_eq w k) [
        | inl same ↦ (
            let now_at : countdown_at (set now k c') k ≡ c'.countdown = ap (λ (x : Cache). x.countdown) (get_or-set_same now k c' no_cache lt) in
            let there : countdown_at (set now k c') k ≡ spent (countdown_at old k) (asked_at riding queues (answers ++ ans ∷ []) k) (given_at riding queues (answers ++ ans ∷ []) k) = rw (a_here, sym queue, sym mine) (now_at ∙ spends_it) in
            rw same there)
        | inr other ↦ (
            let below : w < k = omega arith in
            let now_at : countdown_at (set now k c') w ≡ countdown_at now w = ap (λ (x : Cache). x.countdown) (get_or-set_other now k w c' no_cache other) in
            rw (a_old w below) (now_at ∙ was.spent_are w below))
      ];
      others = λ w high. (let other : w ≢ k = λ q. omega arith in ap (λ (x : Cache). x.countdown) (get_or-set_other now k w c' no_cache other) ∙ was.others w (omega arith));
    }

-- all have
pub sampled-all : (riding : Bool) (queues : List (List Event)) (k : ℕ) (answers : List (List Answer)) (sampled : List (List Bool)) (old new : List Cache) → length old ≤ k → HaveSampledTo riding queues k answers sampled old new → HaveSampled riding queues answers sampled old new
sampled-all riding queues k answers sampled old new long was = record { flags_are = λ w low. was.flags_are w (omega arith); spent_are = λ w low. was.spent_are w (omega arith) }

-- caches with the same countdowns
pub sampled-keeps : (riding : Bool) (queues : List (List Event)) (answers : List (List Answer)) (sampled : List (List Bool)) (old mid new : List Cache) → HaveSampled riding queues answers sampled old mid → length mid ≡ length old
    → ((w : ℕ) → w < length mid → countdown_at new w ≡ countdown_at mid w) → HaveSampled riding queues answers sampled old new
sampled-keeps riding queues answers sampled old mid new was long keeps = record { flags_are = was.flags_are; spent_are = λ w low. keeps w (omega arith) ∙ was.spent_are w low }

-- one cache more with the same countdown
pub keeps-more : (old now : List Cache) (k : ℕ) (c c' : Cache) → k < length now → c ≡ get_or now k no_cache → c'.countdown ≡ c.countdown → ((w : ℕ) → countdown_at now w ≡ countdown_at old w)
    → (w : ℕ) → countdown_at (set now k c') w ≡ countdown_at old w
keeps-more old now k c c' lt is same was w = elim (cases_eq w k) [
  | inl at ↦ (
      let there : countdown_at (set now k c') k ≡ countdown_at old k = ap (λ (x : Cache). x.countdown) (get_or-set_same now k c' no_cache lt) ∙ same ∙ ap (λ (x : Cache). x.countdown) is ∙ was k in
      rw at there)
  | inr other ↦ ap (λ (x : Cache). x.countdown) (get_or-set_other now k w c' no_cache other) ∙ was w
]

-- ---- counts

-- one processor more
pub counts-more : (k : ℕ) (sampled : List (List Bool)) (given : List Bool) (numbers : List (List ℕ)) (b : ℕ) → length sampled ≡ k
    → all_counts (k + 1) (sampled ++ given ∷ []) numbers b ≡ all_counts k sampled numbers b + sampled_counts given (get_or numbers k []) b
counts-more k sampled given numbers b long =
    let n : k + 1 ≡ suc k = omega arith in
    let next = ap (λ (m : ℕ). all_counts m (sampled ++ given ∷ []) numbers b) n in
    let here : get_or (sampled ++ given ∷ []) k [] ≡ given = get_or_push sampled given [] k long in
    let first = ap (λ (l : List Bool). sampled_counts l (get_or numbers k []) b) here in
    let rest = sum-same k (λ w. sampled_counts (get_or (sampled ++ given ∷ []) w []) (get_or numbers w []) b) (λ w. sampled_counts (get_or sampled w []) (get_or numbers w []) b)
    (λ w low. ap (λ (l : List Bool). sampled_counts l (get_or numbers w []) b) (get_or_append_left sampled (given ∷ []) [] w (omega arith))) in
    omega arith

-- ---- one event more

-- the flags and the countdown behind one event more
pub flags-more : (c : Countdown) (events : List Event) (answers : List Answer) (given : List Bool) (e : Event) (a : Answer) (f : Bool) → reverse given ≡ flags c events answers → f ≡ flag (spent c events answers) e a
    → f ∷ reverse given ≡ flags c (e ∷ events) (a ∷ answers)
flags-more c events answers given e a f was is = rw (was, is) refl

-- as many flags as events
flags-length : (c : Countdown) (events : List Event) (answers : List Answer) → length answers ≡ length events → length (flags c events answers) ≡ length events
flags-length c [] answers long = refl
flags-length c (e ∷ events) [] long = absurd (omega arith)
flags-length c (e ∷ events) (a ∷ answers) long = ap suc (flags-length c events answers (omega arith))

pub sampled-sizes : (riding : Bool) (queues : List (List Event)) (answers : List (List Answer)) (sampled : List (List Bool)) (old new : List Cache) → HaveSampled riding queues answers sampled old new → length sampled ≡ length old → length queues ≡ length old
    → ((w : ℕ) → length (get_or answers w []) ≡ length (get_or queues w [])) → (w : ℕ) → length (get_or sampled w []) ≡ length (get_or queues w [])
sampled-sizes riding queues answers sampled old new h long longer sizes w =
    elim (cases_lt w (length old)) [
      | inl low ↦ (
          let a = length-reverse (get_or sampled w []) in
          let b = ap (λ (l : List Bool). length l) (h.flags_are w low) in
          let e = length-reverse (get_or queues w []) in
          let f = length-reverse (get_or answers w []) in
          let s = sizes w in
          let es = reverse (get_or queues w []) in
          let ans = reverse (get_or answers w []) in
          let k = asked-long riding es ans (omega arith) in
          let l = given-long riding es ans (omega arith) in
          let g = flags-length (countdown_at old w) (asked_of riding es ans) (given_of riding es ans) (omega arith) in
          omega arith)
      | inr high ↦ (
          let a = ap (λ (l : List Bool). length l) (get_or_past sampled w [] (omega arith)) in
          let b = ap (λ (l : List Event). length l) (get_or_past queues w [] (omega arith)) in
          let z : length {A = Bool} [] ≡ 0 = refl in
          let y : length {A = Event} [] ≡ 0 = refl in
          omega arith)
    ]

-- the counts of one object more
pub counts-next : (given : List Bool) (numbers : List ℕ) (k : ℕ) (f : Bool) (b : ℕ) → k < length numbers → length given ≡ k
    → sampled_counts (given ++ f ∷ []) (take (k + 1) numbers) b ≡ sampled_counts given (take k numbers) b + one_count f (get_or numbers k 0) b
counts-next given numbers k f b lt long =
    let more = take_more numbers k 0 lt in
    let few = length-take-le k numbers (omega arith) in
    let split = counts-append given (f ∷ []) (take k numbers) (get_or numbers k 0 ∷ []) b (omega arith) in
    let there = ap (λ (l : List ℕ). sampled_counts (given ++ f ∷ []) l b) more in
    omega arith
