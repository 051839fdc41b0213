use Rattle.std.proofs.Common.{rules, ◌≡◌, sym, ◌∙◌, ap, length}
use Rattle.profile_readers.proofs.Adding.{adds_moves}
use Rattle.profile_readers.proofs.history.Front.with.Goals as goal

pub compare_exchange-found-requires : goal.compare_exchange-found-requires
compare_exchange-found-requires g c =
    let h = c.args.head.now.of_board in
    let offer = c.plain-offer.ensures in
    let pen = c.no_pen-pen.ensures in
    let seen = c.again-seen.ensures in
    let book = ap (λ s. s.book) seen ∙ (c.self.invariant.1 ∙ sym (ap (λ w. w.book) h)) in
    let number : c.self.inside.number ≡ c.from-old.result = search rules in (
      ap (λ w. w.tracked) h,
      book,
      pen.0 ∙ book,
      offer.0,
      rw (ap (λ w. w.key) h, pen.1, offer.1, offer.3) (adds_moves c.again-seen.result.log c.args.counts.now.items c.from-old.result (ap (λ s. length s.log) seen ∙ (sym c.self.invariant.0 ∙ number))),
    )
