use Rattle.std.proofs.Common.{refl, ◌∙◌}
use Rattle.large_objects.proofs.Putting.{first_free, may_push, puts}
use Rattle.large_objects.proofs.larges.put_object.Goals as goal

pub note_alloc-requires-clause-free : goal.note_alloc-requires-clause-free
note_alloc-requires-clause-free c = first_free c.args.class c.args.body c.args.hand.now.worker c.requires.body

pub push-requires-clause-may : goal.push-requires-clause-may
push-requires-clause-may c = may_push c.args.class c.args.body c.note_alloc.new.body c.args.hand.now.worker c.note_alloc.new.w c.requires.large c.requires.body c.note_alloc.ensures.body c.note_alloc.ensures.same c.note_alloc.ensures.view

pub returns-clause-puts : goal.returns-clause-puts
returns-clause-puts c = puts c.args.class c.args.body c.note_alloc.new.body c.args.hand.now.worker c.note_alloc.new.w c.requires.large c.requires.body c.note_alloc.ensures.body c.note_alloc.ensures.same c.note_alloc.ensures.view
    c.args.hand.now (record c.args.hand.now { worker = c.push.new.w }) 0 _ c.from.result refl c.note_alloc.ensures.next (c.from.ensures ∙ c.note_alloc.ensures.same.page) refl refl c.push.ensures
