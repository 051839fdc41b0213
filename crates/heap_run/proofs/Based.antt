-- What a cycle of workers whose tiny objects ride comes to, said of the base: the events that were asked of the heap, and what it answered.
use Rattle.std.proofs.Common.{◌≡◌, ℕ, zero, suc, ◌<◌, Bool, true, false, List, [], ◌∷◌, ◌++◌, length, map, reverse, get_or, Option, None, Some, refl, sym, ◌∙◌, ap, arith, subst, inl, inr}
use Rattle.std.proofs.lemmas.Bool.{cases_Bool}
use Rattle.std.proofs.lemmas.List.{length-map, length-reverse, reverse-append, reverse-reverse}
use Rattle.trace_reader.specs.declared.trace.Event.{Event}
use Rattle.cycle_history.specs.declared.Answer.{Answer}
use Rattle.profile_cycle.specs.declared.buckets.Bucket.{Bucket}
use Rattle.profile_cycle.specs.Sampling.{Countdown}
use Rattle.run_laws.specs.Profile.{sum_below}
use Rattle.sample_laws.specs.Counted.{all_counts, one_count, sampled_counts}
use Rattle.sample_laws.specs.Countdowns.{flag, flags, spent}
use Rattle.sample_laws.specs.Numbers.{number_of}
use Rattle.sample_laws.proofs.Parted.{counts-reverse}
use Rattle.tiny_alloc.specs.declared.part.Part.TheVariants.{Lead}
use Rattle.tiny_alloc.specs.Base.{based_answer, based_event}
use Rattle.tiny_alloc.specs.Blocks.{Block, seat_in}
use Rattle.tiny_alloc.specs.Growing.{lone_event}
use Rattle.tiny_alloc.specs.Parts.{next_part}
use Rattle.tiny_alloc.specs.Riders.{is_tiny, part_in}
use Rattle.tiny_alloc.specs.Rides.{alone, block_of, ridden_answers, ridden_events, tried_by}
use Rattle.span_set.specs.declared.hand.Hand.{Hand}
use Rattle.proc_cache.specs.Cache.{Cache}
use Rattle.heap_run.specs.Counts.{HaveSampled}
use Rattle.heap_run.specs.Settled.{HasWorked}
use Rattle.span_laws.specs.Views.{Seen}
use Rattle.heap_run.specs.Parts.{part_at}
use Rattle.heap_run.specs.Turns.{HaveAnswered, SaysAnswers}
use Rattle.heap_run.specs.Counts.{countdown_at}

-- ---- each processor's own lists

-- What each processor asked of the heap.
abbrev pub each_asked : List (List Event) → List (List Answer) → List (List Event)
each_asked [] given = []
each_asked (q ∷ queues) [] = reverse (ridden_events alone (reverse q) []) ∷ each_asked queues []
each_asked (q ∷ queues) (g ∷ given) = reverse (ridden_events alone (reverse q) (reverse g)) ∷ each_asked queues given

-- What the heap answered to each.
abbrev pub each_given : List (List Event) → List (List Answer) → List (List Answer)
each_given queues [] = []
each_given [] (g ∷ given) = reverse (ridden_answers alone [] (reverse g)) ∷ each_given [] given
each_given (q ∷ queues) (g ∷ given) = reverse (ridden_answers alone (reverse q) (reverse g)) ∷ each_given queues given

none-given : (es : List Event) → ridden_answers alone es [] ≡ []
none-given [] = refl
none-given (e ∷ es) = refl

pub asked-each : (queues : List (List Event)) (given : List (List Answer)) (w : ℕ)
    → get_or (each_asked queues given) w [] ≡ reverse (ridden_events alone (reverse (get_or queues w [])) (reverse (get_or given w [])))
asked-each [] given w = refl
asked-each (q ∷ queues) [] zero = refl
asked-each (q ∷ queues) [] (suc w) = asked-each queues [] w
asked-each (q ∷ queues) (g ∷ given) zero = refl
asked-each (q ∷ queues) (g ∷ given) (suc w) = asked-each queues given w

pub given-each : (queues : List (List Event)) (given : List (List Answer)) (w : ℕ)
    → get_or (each_given queues given) w [] ≡ reverse (ridden_answers alone (reverse (get_or queues w [])) (reverse (get_or given w [])))
given-each queues [] w = ap (λ (l : List Answer). reverse l) (sym (none-given (reverse (get_or queues w []))))
given-each [] (g ∷ given) zero = refl
given-each [] (g ∷ given) (suc w) = given-each [] given w
given-each (q ∷ queues) (g ∷ given) zero = refl
given-each (q ∷ queues) (g ∷ given) (suc w) = given-each queues given w

asked-back : (queues : List (List Event)) (given : List (List Answer)) (w : ℕ)
    → reverse (get_or (each_asked queues given) w []) ≡ ridden_events alone (reverse (get_or queues w [])) (reverse (get_or given w []))
asked-back queues given w = ap (λ (l : List Event). reverse l) (asked-each queues given w) ∙ reverse-reverse _

given-back : (queues : List (List Event)) (given : List (List Answer)) (w : ℕ)
    → reverse (get_or (each_given queues given) w []) ≡ ridden_answers alone (reverse (get_or queues w [])) (reverse (get_or given w []))
given-back queues given w = ap (λ (l : List Answer). reverse l) (given-each queues given w) ∙ reverse-reverse _

-- the logs tell of the base's events and answers
pub answered-base : (queues : List (List Event)) (given : List (List Answer)) (d : Seen) → HaveAnswered true queues given d → HaveAnswered false (each_asked queues given) (each_given queues given) d
answered-base queues given d told w =
    subst (λ (z : List Event × List Answer). SaysAnswers z.0 z.1 (part_at d w).log) (λ i. (sym (asked-back queues given w) i, sym (given-back queues given w) i)) (told w)

-- and so do the countdowns
pub sampled-base : (queues : List (List Event)) (given : List (List Answer)) (sampled : List (List Bool)) (old new : List Cache) → HaveSampled true queues given sampled old new
    → HaveSampled false (each_asked queues given) (each_given queues given) sampled old new
sampled-base queues given sampled old new h = record {
  flags_are = λ w low. h.flags_are w low ∙ (λ i. flags (countdown_at old w) (sym (asked-back queues given w) i) (sym (given-back queues given w) i));
  spent_are = λ w low. h.spent_are w low ∙ (λ i. spent (countdown_at old w) (sym (asked-back queues given w) i) (sym (given-back queues given w) i));
}

-- the workers worked on the base's events
pub worked-base : (queues : List (List Event)) (given : List (List Answer)) (start : Hand) (procs : List Cache) (d : Hand) → HasWorked true queues given start procs d
    → HasWorked false (each_asked queues given) (each_given queues given) start procs d
worked-base queues given start procs d w = record {
  driving = w.driving;
  collecting = w.collecting;
  answered = answered-base queues given d.worker w.answered;
  riders = λ v. tt;
  flushed = w.flushed;
  settled = w.settled;
}

-- ---- samples

-- An object that is sampled has the bucket that it would have as a lead.
agrees-seat : (known : List Bucket) (c : Countdown) (e : Event) (a : Answer) (seat : Option _) → flag c (based_event (part_in seat) e) (based_answer (part_in seat) a) ≡ true
    → number_of known (based_event Lead e) ≡ number_of known (based_event (part_in seat) e)
agrees-seat known c e a None on = refl
agrees-seat known c e a (Some seat) on = absurd (let f : false ≡ true = on in cc)

agrees : (known : List Bucket) (c : Countdown) (block : Option Block) (e : Event) (a : Answer) → flag c (based_event (next_part block (tried_by e a)) e) (based_answer (next_part block (tried_by e a)) a) ≡ true
    → number_of known (lone_event e) ≡ number_of known (based_event (next_part block (tried_by e a)) e)
agrees known c block e a on = elim (cases_Bool (is_tiny e)) [
  | inl tiny ↦ (
      let on' : flag c (based_event (part_in (seat_in block e.size)) e) (based_answer (part_in (seat_in block e.size)) a) ≡ true = rw tiny at on in
      rw tiny (agrees-seat known c e a (seat_in block e.size) on'))
  | inr other ↦ rw other refl
]

one-same : (f : Bool) (n m b : ℕ) → (f ≡ true → n ≡ m) → one_count f n b ≡ one_count f m b
one-same true n m b same = ap (λ (k : ℕ). one_count true k b) (same refl)
one-same false n m b same = refl

-- it counts for that bucket
counts-ridden : (known : List Bucket) (c : Countdown) (es : List Event) (ans : List Answer) (b : ℕ) → length ans ≡ length es
    → sampled_counts (flags c (ridden_events alone es ans) (ridden_answers alone es ans)) (map (number_of known) (map lone_event es)) b
    ≡ sampled_counts (flags c (ridden_events alone es ans) (ridden_answers alone es ans)) (map (number_of known) (ridden_events alone es ans)) b
counts-ridden known c [] [] b long = refl
counts-ridden known c [] (a ∷ ans) b long = absurd (omega arith)
counts-ridden known c (e ∷ es) [] b long = absurd (omega arith)
counts-ridden known c (e ∷ es) (a ∷ ans) b long =
    let before = spent c (ridden_events alone es ans) (ridden_answers alone es ans) in
    let block = block_of (alone e) es ans in
    let part = next_part block (tried_by e a) in
    let here = one-same (flag before (based_event part e) (based_answer part a)) (number_of known (lone_event e)) (number_of known (based_event part e)) b (λ on. agrees known before block e a on) in
    let rest = counts-ridden known c es ans b (omega arith) in
    omega arith

reverse-map : {X Y : Type 0} (f : X → Y) (xs : List X) → reverse (map f xs) ≡ map f (reverse xs)
reverse-map f [] = refl
reverse-map f (x ∷ xs) =
    reverse-append (f x ∷ []) (map f xs) ∙ ap (λ (l : List _). l ++ f x ∷ []) (reverse-map f xs) ∙ sym (map-end (reverse xs))
    ∙ ap (λ (l : List _). map f l) (sym (reverse-append (x ∷ []) xs))
  where
    map-end : (ys : List _) → map f (ys ++ x ∷ []) ≡ map f ys ++ f x ∷ []
    map-end [] = refl
    map-end (y ∷ ys) = ap (λ (l : List _). f y ∷ l) (map-end ys)

-- the same with the oldest first
pub counts-base : (known : List Bucket) (c : Countdown) (queue : List Event) (given : List Answer) (sampled : List Bool) (b : ℕ) → length given ≡ length queue → length sampled ≡ length queue
    → reverse sampled ≡ flags c (ridden_events alone (reverse queue) (reverse given)) (ridden_answers alone (reverse queue) (reverse given))
    → sampled_counts sampled (map (number_of known) (map lone_event queue)) b
    ≡ sampled_counts sampled (map (number_of known) (reverse (ridden_events alone (reverse queue) (reverse given)))) b
counts-base known c queue given sampled b long as_many is =
    let es = reverse queue in
    let ans = reverse given in
    let even : length ans ≡ length es = (let p = length-reverse queue in let q = length-reverse given in omega arith) in
    let numbers = map (number_of known) (map lone_event queue) in
    let asked = map (number_of known) (reverse (ridden_events alone es ans)) in
    let turned : reverse numbers ≡ map (number_of known) (map lone_event es) =
    reverse-map (number_of known) (map lone_event queue) ∙ ap (λ (l : List Event). map (number_of known) l) (reverse-map lone_event queue) in
    let turned-too : reverse asked ≡ map (number_of known) (ridden_events alone es ans) =
    reverse-map (number_of known) (reverse (ridden_events alone es ans)) ∙ ap (λ (l : List Event). map (number_of known) l) (reverse-reverse _) in
    let one = counts-reverse sampled numbers b (length-map _ _ ∙ length-map _ _ ∙ sym as_many) in
    let two = counts-reverse sampled asked b (length-map _ _ ∙ length-reverse _ ∙ ridden-many es ans ∙ length-reverse queue ∙ sym as_many) in
    sym one ∙ ap (λ (l : List ℕ). sampled_counts (reverse sampled) l b) turned ∙ ap (λ (l : List Bool). sampled_counts l (map (number_of known) (map lone_event es)) b) is
    ∙ counts-ridden known c es ans b even ∙ ap (λ (l : List Bool). sampled_counts l (map (number_of known) (ridden_events alone es ans)) b) (sym is)
    ∙ ap (λ (l : List ℕ). sampled_counts (reverse sampled) l b) (sym turned-too) ∙ two
  where
    ridden-many : (es : List Event) (ans : List Answer) → length (ridden_events alone es ans) ≡ length es
    ridden-many [] ans = refl
    ridden-many (e ∷ es) [] = refl
    ridden-many (e ∷ es) (a ∷ ans) = ap suc (ridden-many es ans)

sum-same : (n : ℕ) (f g : ℕ → ℕ) → ((w : ℕ) → w < n → f w ≡ g w) → sum_below n f ≡ sum_below n g
sum-same zero f g same = refl
sum-same (suc n) f g same = let here = same n (omega arith) in let rest = sum-same n f g (λ w lt. same w (omega arith)) in omega arith

-- all samples count for their buckets
pub all-counts-base : (known : List Bucket) (n : ℕ) (countdowns : ℕ → Countdown) (queues : List (List Event)) (given : List (List Answer)) (sampled : List (List Bool)) (numbers numbers' : List (List ℕ)) (b : ℕ)
    → ((w : ℕ) → w < n → length (get_or given w []) ≡ length (get_or queues w [])) → ((w : ℕ) → w < n → length (get_or sampled w []) ≡ length (get_or queues w []))
    → ((w : ℕ) → w < n → reverse (get_or sampled w [])
    ≡ flags (countdowns w) (ridden_events alone (reverse (get_or queues w [])) (reverse (get_or given w []))) (ridden_answers alone (reverse (get_or queues w [])) (reverse (get_or given w []))))
    → ((w : ℕ) → get_or numbers w [] ≡ map (number_of known) (map lone_event (get_or queues w [])))
    → ((w : ℕ) → get_or numbers' w [] ≡ map (number_of known) (reverse (ridden_events alone (reverse (get_or queues w [])) (reverse (get_or given w [])))))
    → all_counts n sampled numbers' b ≡ all_counts n sampled numbers b
all-counts-base known n countdowns queues given sampled numbers numbers' b long many is leads based =
    sum-same n (λ w. sampled_counts (get_or sampled w []) (get_or numbers' w []) b) (λ w. sampled_counts (get_or sampled w []) (get_or numbers w []) b) (λ w lt.
    ap (λ (l : List ℕ). sampled_counts (get_or sampled w []) l b) (based w)
    ∙ sym (counts-base known (countdowns w) (get_or queues w []) (get_or given w []) (get_or sampled w []) b (long w lt) (many w lt) (is w lt))
    ∙ ap (λ (l : List ℕ). sampled_counts (get_or sampled w []) l b) (sym (leads w)))
