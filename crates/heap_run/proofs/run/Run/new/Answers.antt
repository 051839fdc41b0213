use Rattle.std.proofs.Common.{ℕ, refl, ap, ◌∙◌, ◌*◌, arith}
use Rattle.heap_run.proofs.Begins.{begun-first, first_seen, started-as}
use Rattle.heap_run.proofs.run.Run.new.Goals as goal

pub returns-clause-begun : goal.returns-clause-begun
returns-clause-begun c t header named =
    begun-first t 70 136 _ refl (started-as c.args.trace.now t 70 136 _ header named (record {
      worker = c.new-3.ensures.worker ∙ c.in_ok-shared.ensures ∙ ap (λ (k : ℕ). first_seen c.in_ok-shared.shared (512 * c.args.trace.now.header.chunks) c.args.trace.now.header.goal k 70) c.caching_procs.ensures;
      notes = ap (λ n. n.items) c.new-3.ensures.notes;
      procs = (let a = c.in_ok-procs.ensures.length in omega (arith, c.in_ok-procs.procs.ok.0));
      empty = c.in_ok-procs.ensures.empty;
      marks = c.empty.ensures.pairs;
      answers = c.in_ok-answers.ensures;
      sweeps = c.new-4.ensures;
      sampled = c.in_ok-sampled.ensures;
      buckets = c.in_ok-buckets.ensures;
      places = c.in_ok-places.ensures;
      clear = refl;
      dead = c.empty.ensures.dead;
      tally = c.new-3.ensures.tally ∙ c.in_ok-profile.ensures.tally;
      some = c.in_ok-profile.ensures.some;
      room = c.in_ok-profile.ensures.room;
      different = c.in_ok-profile.ensures.different;
      named = c.in_ok-profile.ensures.named;
      order = c.in_ok-profile.ensures.order;
      before = c.in_ok-profile.ensures.before;
      lines = c.in_ok-profile.ensures.lines;
    }))
