use Rattle.std.proofs.Common.{◌≡◌, ◌+◌, ◌<◌, ℕ, false, length, sym, ap, ◌∙◌, arith}
use Rattle.std.specs.Prelude.{slice_set}
use Rattle.sweep_laws.specs.ChangesOfSets.{raise_head}
use Rattle.sweep_laws.specs.Reading.{set_of, is_swept_set}
use Rattle.sweep_laws.specs.State.{CoreState, SetState}
use Rattle.sweep_generation.specs.Kept.{core_view, IsKept}
use Rattle.sweep_generation.specs.Unpopped.{count_unpopped}
use Rattle.sweep_generation.specs.declared.state.Core.TheInside.{Inside}
use Rattle.sweep_generation.proofs.Counted.{pop_last, pop_more}
use Rattle.sweep_generation.proofs.Seen.{set-is}
use Rattle.sweep_generation.proofs.state.Core.unpopped_after_pop.Goals as goal

-- the count after a pop of set s
abbrev after_pop : CoreState → ℕ → ℕ
after_pop now s = count_unpopped now.generation 0 (slice_set now.sets s (raise_head (set_of now s)))

module _ (i : Inside) (now : CoreState) (seen : core_view i ≡ now) (k : IsKept i) (s : ℕ) (low : s < length now.sets) (unswept : is_swept_set now.generation s ≡ false) where
  seen_count : i.unpopped ≡ count_unpopped now.generation 0 now.sets
  seen_count = k.unpopped ∙ ap (λ (st : CoreState). count_unpopped st.generation 0 st.sets) seen

  last : (set_of now s).head + 1 ≡ (set_of now s).tail → after_pop now s + 1 ≡ i.unpopped
  last met = pop_last now.generation s now.sets low unswept met ∙ sym seen_count

  more : (set_of now s).head + 1 < (set_of now s).tail → after_pop now s ≡ i.unpopped
  more apart = pop_more now.generation s now.sets low unswept apart ∙ sym seen_count

pub overflow_sub-entries : goal.overflow_sub-entries
overflow_sub-entries c =
    let is = set-is c.self.inside c.args.self.now c.self.view_is c.args.set c.requires.set c.index-entries.result.now c.index-entries.ensures in
    omega (arith, ap (λ (x : SetState). x.head) is, ap (λ (x : SetState). x.tail) is, c.requires.head)

pub overflow_sub-result : goal.overflow_sub-result
overflow_sub-result c =
    let is = set-is c.self.inside c.args.self.now c.self.view_is c.args.set c.requires.set c.index-entries.result.now c.index-entries.ensures in
    let met : (set_of c.args.self.now c.args.set).head + 1 ≡ (set_of c.args.self.now c.args.set).tail = omega (arith, ap (λ (x : SetState). x.head) is, ap (λ (x : SetState). x.tail) is) in
    let l = last c.self.inside c.args.self.now c.self.view_is c.self.invariant c.args.set c.requires.set c.requires.part met in
    omega (arith, l)

pub returns-then-entries-eq1 : goal.returns-then-entries-eq1
returns-then-entries-eq1 c =
    let is = set-is c.self.inside c.args.self.now c.self.view_is c.args.set c.requires.set c.index-entries.result.now c.index-entries.ensures in
    let met : (set_of c.args.self.now c.args.set).head + 1 ≡ (set_of c.args.self.now c.args.set).tail = omega (arith, ap (λ (x : SetState). x.head) is, ap (λ (x : SetState). x.tail) is) in
    let l = last c.self.inside c.args.self.now c.self.view_is c.self.invariant c.args.set c.requires.set c.requires.part met in
    omega (arith, l)

pub returns-else-entries-eq1 : goal.returns-else-entries-eq1
returns-else-entries-eq1 c =
    let is = set-is c.self.inside c.args.self.now c.self.view_is c.args.set c.requires.set c.index-entries.result.now c.index-entries.ensures in
    let apart : (set_of c.args.self.now c.args.set).head + 1 < (set_of c.args.self.now c.args.set).tail = omega (arith, ap (λ (x : SetState). x.head) is, ap (λ (x : SetState). x.tail) is, c.requires.head) in
    sym (more c.self.inside c.args.self.now c.self.view_is c.self.invariant c.args.set c.requires.set c.requires.part apart)
