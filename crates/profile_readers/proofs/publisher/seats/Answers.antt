use Rattle.std.proofs.Common.{rules, ◌≡◌, ◌++◌, ◌∷◌, [], ap, ◌∙◌}
use Rattle.std.proofs.lemmas.List.{replicate_more}
use Rattle.profile_readers.proofs.publisher.seats.Goals as goal

pub loop-preserved : goal.loop-preserved
loop-preserved g c =
    let now = c.args.publisher.now in
    let pushed : c.push.new.self ≡ c.loop.watchers ++ now ∷ [] = search rules in
    record { made = pushed ∙ (ap (λ l. l ++ now ∷ []) c.loop.invariant.made ∙ replicate_more c.loop.counter now); within = search rules }
