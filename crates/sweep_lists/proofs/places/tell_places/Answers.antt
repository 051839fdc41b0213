use Rattle.std.proofs.Common.{◌≡◌, ◌∙◌, ◌<◌, ◌+◌, ◌-◌, None, Some, length, get_or, drop, map, refl, sym, ap, if◌then◌else◌, arith}
use Rattle.std.specs.List.{position}
use Rattle.std.proofs.lemmas.List.{drop_all, length-map, get_or-map}
use Rattle.sweep_lists.specs.There.{begins, place_view, told}
use Rattle.sweep_lists.proofs.Told.{told_more}
use Rattle.sweep_lists.proofs.places.tell_places.Goals as goal

pub loop-k-init : goal.loop-k-init
loop-k-init c = record {
  inside = omega arith;
  long = refl;
  tells = λ p low. rw (drop_all c.len-k.result (map place_view c.args.places.now.items) (omega (arith, length-map c.args.places.now.items place_view, c.args.places.now.ok.0))) refl;
}

pub loop-k-preserved : goal.loop-k-preserved
loop-k-preserved c =
    let one : (c.loop-k.k - 1) + 1 ≡ c.loop-k.k = omega arith in
    let low : c.loop-k.k - 1 < length c.args.places.now.items = omega (arith, c.loop-k.invariant.inside, c.args.places.now.ok.0) in
    let place = ap place_view c.index.ensures ∙ sym (get_or-map place_view c.args.places.now.items (c.loop-k.k - 1) c.index.result.now None low) in
    record {
      inside = omega (arith, c.loop-k.invariant.inside);
      long = c.tell_place.ensures.len ∙ c.loop-k.invariant.long;
      tells = λ p inside.
          told_more (c.loop-k.k - 1) p (map place_view c.args.places.now.items) (get_or c.args.starts.now.items p None) (get_or c.loop-k.starts.items p None) (get_or c.tell_place.new.starts.items p None)
          (omega (arith, low, length-map c.args.places.now.items place_view))
          (c.loop-k.invariant.tells p inside ∙ ap (λ n. told n (get_or c.args.starts.now.items p None) (position (begins p) (drop n (map place_view c.args.places.now.items)))) (sym one))
          (c.tell_place.ensures.tells p (omega (arith, c.loop-k.invariant.long)) ∙ ap (λ x. if begins p x then Some (c.loop-k.k - 1) else get_or c.loop-k.starts.items p None) place);
    }

pub returns-clause-tells : goal.returns-clause-tells
returns-clause-tells c = λ p low.
    let e : c.loop-k.k ≡ 0 = omega arith in
    c.loop-k.invariant.tells p low ∙ ap (λ n. told n (get_or c.args.starts.now.items p None) (position (begins p) (drop n (map place_view c.args.places.now.items)))) e
