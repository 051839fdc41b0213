use Rattle.std.proofs.Common.{◌≡◌, ◌+◌, ◌*◌, ℕ, arith, subst}
use Rattle.page_bitmap.specs.Words.{has_page}
use Rattle.page_bitmap.specs.Scans.{from_on, IsSearched}
use Rattle.page_bitmap.proofs.ScansLemmas.{word-from, searched-all, found-from}
use Rattle.page_bitmap.proofs.bitmap.Bitmap.first_run.Goals as goal

pub returns-in-Found-clause-found : goal.returns-in-Found-clause-found
returns-in-Found-clause-found c =
    let of = word-from c.args.self.now.words c.args.from c.loop-i.i (omega arith) (omega arith) in
    found-from (has_page c.args.self.now.words) c.args.from c.args.n c.in-Found.page (omega arith)
    (c.in-Found.ensures (from_on (has_page c.args.self.now.words) c.args.from) (rw c.saturating_sub.ensures of) c.loop-i.invariant)

pub loop-i-preserved : goal.loop-i-preserved
loop-i-preserved c =
    let of = word-from c.args.self.now.words c.args.from c.loop-i.i (omega arith) (omega arith) in
    let same : 64 * c.loop-i.i + 64 ≡ 64 * (c.loop-i.i + 1) = omega arith in
    subst (λ (x : ℕ). IsSearched (from_on (has_page c.args.self.now.words) c.args.from) c.args.n x c.in-Reaches.page) same
    (c.in-Reaches.ensures (from_on (has_page c.args.self.now.words) c.args.from) (rw c.saturating_sub.ensures of) c.loop-i.invariant)

pub returns-clause-none : goal.returns-clause-none
returns-clause-none c =
    searched-all (has_page c.args.self.now.words) c.args.from c.args.n (64 * c.loop-i.i) c.loop-i.begin (omega arith) c.loop-i.invariant
