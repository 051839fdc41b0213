use Rattle.std.proofs.Common.{inl}
use Rattle.std.proofs.lemmas.Result.{IfOk-weaker}
use Rattle.heap_run.proofs.Naming.{all-named}
use Rattle.heap_run.proofs.profile.buckets_of_samples.Goals as goal

pub returns-clause-named : goal.returns-clause-named
returns-clause-named c =
    IfOk-weaker c.of_trace-2.result _ _ (λ known is. inl (all-named known _ is c.a_pair_is_a_bucket_where_an_event_has_it.ensures)) c.of_trace-2.ensures
