use Rattle.std.proofs.Common.{◌<◌, ℕ, List, length, get_or, sym, subst, refl}
use Rattle.profile_cycle.proofs.moving.move_noted.Goals as goal

pub move_listed-requires-clause-within : goal.move_listed-requires-clause-within
move_listed-requires-clause-within c =
    let r = c.requires in
    subst (λ (z : List ℕ × ℕ). (k : ℕ) → k < length z.0 → get_or z.0 k 0 < z.1) (λ i. (sym c.as_slice.ensures.value i, r.buckets i))
    (λ k low. r.lists.within (get_or c.args.listed.now.buckets.items k 0) (k, low, refl))
