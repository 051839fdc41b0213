use Rattle.std.proofs.Common.{◌≡◌, ℕ, ◌<◌, List, length, get_or, take_all, Some, ◌∙◌, ap, arith}
use Rattle.std.specs.List.{slice_get}
use Rattle.std.proofs.lemmas.Option.{slice_get-get_or}
use Rattle.profile_cycle.specs.declared.buckets.Bucket.{Bucket}
use Rattle.profile_lines.specs.Keyed.{keyed_from}
use Rattle.profile_lines.proofs.Ordered.{keyed-next}
use Rattle.profile_lines.proofs.order.keyed_of.Goals as goal

at-place : (buckets : List Bucket) (i : ℕ) (b : Bucket) → i < length buckets → slice_get buckets i ≡ Some b → get_or buckets i b ≡ b
at-place buckets i b lt is = let e = slice_get-get_or buckets i b lt in cc

pub loop-number-preserved : goal.loop-number-preserved
loop-number-preserved c =
    let buckets = c.args.buckets.now in
    let b : Bucket = record { stack = c.key-stack.result.0; slot = c.key-stack.result.1 } in
    let lt : c.loop-number.number < length buckets = (let e = c.len-number-end.ensures.buckets in let less = c.loop-number-test.true in omega arith) in
    keyed-next buckets c.loop-number.number b c.loop-number.keyed.items c.push.new.self.items lt (at-place buckets c.loop-number.number b lt c.key-stack.ensures) c.loop-number.invariant c.in_ok-push.ensures.items

pub returns : goal.returns
returns c =
    c.loop-number.invariant
    ∙ ap (λ (l : List Bucket). keyed_from 0 l) (take_all c.loop-number.number c.args.buckets.now (let e = c.len-number-end.ensures.buckets in let le = c.loop-number-test.false in omega arith))
