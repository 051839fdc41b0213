use Rattle.std.proofs.Common.{◌+◌, ◌*◌, arith}
use Rattle.page_summary.proofs.Blocks.{block-sums, block-page, block-entry, block-none, block-empty}
use Rattle.page_summary.proofs.search.descend.Goals as goal

pub overflow_mul-first : goal.overflow_mul-first
overflow_mul-first c = let block = rw c.in-Entry.is at c.requires.block in omega arith

pub overflow_add-result-in-Entry-scan : goal.overflow_add-result-in-Entry-scan
overflow_add-result-in-Entry-scan c = let block = rw c.in-Entry.is at c.requires.block in let within = c.in-Entry-scan.ensures.within in omega arith

pub returns-in-Page-clause-found : goal.returns-in-Page-clause-found
returns-in-Page-clause-found c = λ map sums empty placed.
    let fits = rw c.in-Entry.is at c.requires.block in
    let inside = rw c.in-Entry.is at placed in
    block-page map c.args.pages c.in-Entry.entry c.args.n _ c.args.level.now c.requires.pages fits inside
    (c.in-Page.ensures.found (λ p. map (c.args.pages * (8 * c.in-Entry.entry) + p)) (block-sums map c.args.pages (8 * c.in-Entry.entry) 8 c.args.level.now fits sums)
    (block-empty map c.args.pages c.in-Entry.entry _ c.args.from (omega arith) empty))

pub returns-in-Entry-scan-clause-found : goal.returns-in-Entry-scan-clause-found
returns-in-Entry-scan-clause-found c = λ map sums empty placed.
    let fits = rw c.in-Entry.is at c.requires.block in
    let inside = rw c.in-Entry.is at placed in
    block-entry map c.args.pages c.in-Entry.entry c.args.n _ c.args.level.now c.requires.pages fits inside c.in-Entry-scan.ensures.within
    (c.in-Entry-scan.ensures.found (λ p. map (c.args.pages * (8 * c.in-Entry.entry) + p)) (block-sums map c.args.pages (8 * c.in-Entry.entry) 8 c.args.level.now fits sums)
    (block-empty map c.args.pages c.in-Entry.entry _ c.args.from (omega arith) empty))

pub returns-in-Nowhere-clause-found : goal.returns-in-Nowhere-clause-found
returns-in-Nowhere-clause-found c = λ map sums empty placed.
    let fits = rw c.in-Entry.is at c.requires.block in
    let inside = rw c.in-Entry.is at placed in
    absurd (block-none map c.args.pages c.in-Entry.entry c.args.n c.args.level.now fits inside
    (c.in-Nowhere.ensures.found (λ p. map (c.args.pages * (8 * c.in-Entry.entry) + p)) (block-sums map c.args.pages (8 * c.in-Entry.entry) 8 c.args.level.now fits sums)
    (block-empty map c.args.pages c.in-Entry.entry _ c.args.from (omega arith) empty)))
