use Rattle.std.proofs.Common.{◌≡◌, ◌+◌, ◌≤◌, length, reverse, take, vec_len}
use Rattle.std.specs.Vec.{vec_capacity}
use Rattle.sample_laws.specs.Counted.{sampled_counts}
use Rattle.sample_laws.specs.Countdowns.{flags, spent}
use Rattle.heap_run.specs.Counts.{Counts}
use Rattle.heap_run.specs.Gains.{HasKept, behind}
use Rattle.heap_run.specs.Riding.{RidersStand, asked_of, block_behind, given_of}
use Rattle.heap_run.specs.Turns.{HasActed, IsCaching, SaysAnswers}
use Rattle.heap_run.proofs.Firsts.{FlushedSoFar}
use Rattle.heap_run.proofs.events.answer_all.Given as goal

abbrev pub invariant-loop-turn : goal.invariant-loop-turn
invariant-loop-turn g l = record {
  acted : HasActed (SaysAnswers (asked_of l.riding (reverse (take l.turn l.events)) (reverse (behind l.fn.answers l.given.items))) (given_of l.riding (reverse (take l.turn l.events)) (reverse (behind l.fn.answers l.given.items)))) l.initial.hand l.hand;
  riders : RidersStand l.riding (reverse (take l.turn l.events)) (reverse (behind l.fn.answers l.given.items));
  block : l.tiny ≡ block_behind l.riding (reverse (take l.turn l.events)) (reverse (behind l.fn.answers l.given.items));
  caching : IsCaching l.initial.hand.worker.view.generation l.hand.worker.view.own l.proc;
  number : l.proc.number ≡ l.initial.proc.number;
  size : length (behind l.fn.sampled l.flags.items) ≡ l.turn;
  long : vec_len l.given ≡ length l.fn.answers + l.turn;
  long_too : vec_len l.flags ≡ length l.fn.sampled + l.turn;
  room : length l.fn.answers + length l.events ≤ vec_capacity l.given;
  room_too : length l.fn.sampled + length l.events ≤ vec_capacity l.flags;
  kept : HasKept l.fn.answers l.given.items;
  kept_too : HasKept l.fn.sampled l.flags.items;
  sampled : reverse (behind l.fn.sampled l.flags.items) ≡ flags l.initial.proc.countdown (asked_of l.riding (reverse (take l.turn l.events)) (reverse (behind l.fn.answers l.given.items))) (given_of l.riding (reverse (take l.turn l.events)) (reverse (behind l.fn.answers l.given.items)));
  spent_is : l.proc.countdown ≡ spent l.initial.proc.countdown (asked_of l.riding (reverse (take l.turn l.events)) (reverse (behind l.fn.answers l.given.items))) (given_of l.riding (reverse (take l.turn l.events)) (reverse (behind l.fn.answers l.given.items)));
  counts : Counts l.shop.marks.now (sampled_counts (behind l.fn.sampled l.flags.items) (take l.turn l.buckets)) l.initial.hand l.hand;
  flushed : FlushedSoFar (asked_of l.riding (reverse (take l.turn l.events)) (reverse (behind l.fn.answers l.given.items))) l.initial.proc l.proc l.initial.hand l.hand;
}
