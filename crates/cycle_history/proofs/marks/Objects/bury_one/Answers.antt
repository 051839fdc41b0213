use Rattle.std.proofs.Common.{◌≡◌, ℕ, ◌+◌, ◌<◌, length, get_or, Some, None, Result, Ok, Err, OnOk, refl, sym, ◌∙◌, ap, subst, arith}
use Rattle.std.proofs.lemmas.Option.{slice_get-get_or}
use Rattle.cycle_history.specs.Places.{LiesAt}
use Rattle.cycle_history.specs.Marked.{HasDied}
use Rattle.cycle_history.proofs.Settled.{below-dead, below-undead}
use Rattle.cycle_history.proofs.marks.Objects.bury_one.Goals as goal

-- two facts of a value give a third
on_ok_both : {T E P Q R : Type 0} (r : Result T E) → (P → Q → R) → OnOk r P → OnOk r Q → OnOk r R
on_ok_both (Ok x) f p q = f p q
on_ok_both (Err e) f p q = tt

pub returns-in-Some : goal.returns-in-Some
returns-in-Some c =
    let o = c.args.self.now in
    let i = c.args.object in
    let given = c.requires.given in
    let all = given.all_places in
    let answers = given.all_answers in
    let lt = c.requires.inside in
    let inside : i < length o.places.now = omega arith in
    let lies = given.found i (Some c.in-Some.place) (slice_get-get_or o.places.now i c.index-self-object.result inside ∙ ap Some (sym c.place.ensures ∙ c.in-Some.is)) in
    let died : HasDied o.trace.now o.mark o.answers.now o.sampled.now c.in-Some.place.page i = record {
      is_sampled = c.requires.sampled;
      lived = c.requires.lived;
      unmarked = c.requires.unmarked;
      index = c.in-Some.place.index;
      lies = lies;
    } in
    on_ok_both c.add_dead.result
    (λ added others. below-dead o.trace.now o.mark o.answers.now o.sampled.now o.buckets.now (length o.answers.now) i c.in-Some.place.page (get_or o.buckets.now i 0) c.args.marks.now c.add_dead.new.self
    c.requires.below died refl added others c.add_dead.ensures.pairs)
    c.add_dead.ensures.dead c.add_dead.ensures.others

pub returns-in-None : goal.returns-in-None
returns-in-None c =
    let o = c.args.self.now in
    let i = c.args.object in
    let given = c.requires.given in
    let all = given.all_places in
    let answers = given.all_answers in
    let lt = c.requires.inside in
    let inside : i < length o.places.now = omega arith in
    let nowhere = given.found i None (slice_get-get_or o.places.now i c.index-self-object.result inside ∙ ap Some (sym c.place.ensures ∙ c.in-None.is)) in
    below-undead o.trace.now o.mark o.answers.now o.sampled.now o.buckets.now (length o.answers.now) i (i + 1) c.args.marks.now (omega arith)
    (λ j le less page died. (let same : j ≡ i = omega arith in nowhere page died.index (subst (λ (n : ℕ). LiesAt o.trace.now o.answers.now n page died.index) same died.lies)))
    c.requires.below
