use Rattle.std.proofs.Common.{◌∙◌, ◌++◌, ◌∷◌, [], List, ap, map, arith}
use Rattle.sweep_laws.specs.State.{LifeState}
use Rattle.sweep_lists.specs.declared.lives.Lives.TheInside.{Inside}
use Rattle.sweep_lists.specs.KeptLives.{AreKept}
use Rattle.sweep_lists.specs.There.{there, place_view}
use Rattle.sweep_lists.specs.Views.{life_view}
use Rattle.sweep_lists.proofs.Begins.{kept-made, kept-pushed, pushed-there, tabled-is}
use Rattle.sweep_lists.proofs.lives.Lives.push.Goals as goal

pub invariant_of-self : goal.invariant_of-self
invariant_of-self c =
    let made : Inside = record c.self.inside { places = c.make_place.new.places; starts = c.make_place.new.starts } in
    let kept : AreKept made = kept-made c.self.inside c.make_place.new.places c.make_place.new.starts c.self.invariant c.make_place.ensures.capacity c.make_place.ensures.lives c.make_place.ensures.tells c.make_place.ensures.apart c.make_place.ensures.room in
    let pushed = c.push.ensures.succeeds (omega (arith, c.make_place.ensures.fits, c.make_place.ensures.capacity, c.self.invariant.space)) in
    let items = rw pushed at c.push.ensures.items in
    kept-pushed made c.args.life c.push.new.self c.tell_next-doubled.new.starts c.len-place.result c.tell_next-doubled.result kept c.requires.room (omega (arith, c.len-place.ensures, c.make_place.new.places.ok.0))
    (omega (arith, c.push.ensures.capacity)) items c.tell_next-doubled.ensures.items
    (λ is. (c.tell_next-doubled.ensures.before is, omega (arith, c.tell_next-doubled.ensures.inside is, c.make_place.new.starts.ok.0), c.tell_next-doubled.ensures.alone is))

pub returns : goal.returns
returns c =
    let pushed = c.push.ensures.succeeds (omega (arith, c.make_place.ensures.fits, c.make_place.ensures.capacity, c.self.invariant.space)) in
    let items = rw pushed at c.push.ensures.items in
    rw (← c.self.view_is)
    (tabled-is (there (map place_view c.push.new.self.items)) (there (map place_view c.self.inside.places.items) ++ life_view c.args.life ∷ []) c.self.inside.space c.tell_next-doubled.new.starts.len c.self.inside.starts.len
    (pushed-there c.args.life c.make_place.new.places.items c.push.new.self.items items ∙ ap (λ (lives : List LifeState). lives ++ life_view c.args.life ∷ []) c.make_place.ensures.lives)
    (c.tell_next-doubled.ensures.len ∙ c.make_place.ensures.reach))
