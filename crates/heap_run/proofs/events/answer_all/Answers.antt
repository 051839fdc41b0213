use Rattle.std.proofs.Common.{◌≡◌, ◌∙◌, ◌+◌, ◌<◌, ◌≤◌, ◌++◌, Bool, false, List, [], ◌∷◌, reverse, take, length, get_or, Option, refl, ap, sym, subst, arith}
use Rattle.std.proofs.lemmas.List.{length-append, reverse-append, take_all, take_more}
use Rattle.trace_reader.specs.declared.trace.Event.{Event}
use Rattle.cycle_history.specs.declared.Answer.{Answer}
use Rattle.profile_cycle.specs.Sampling.{Countdown}
use Rattle.sample_laws.specs.Counted.{one_count, sampled_counts}
use Rattle.sample_laws.specs.Countdowns.{flag, spends}
use Rattle.heap_run.proofs.Counting.{counts-may, counts-none, counts-then}
use Rattle.heap_run.proofs.Riding.{asked-next, block-next, given-next, none-asked, none-block, none-flagged, none-flushed, none-spent, none-stand, stand-next}
use Rattle.heap_run.proofs.Sampling.{counts-next, flags-more}
use Rattle.tiny_alloc.specs.Base.{based_answer, based_event}
use Rattle.tiny_alloc.specs.Blocks.{Block}
use Rattle.span_laws.specs.declared.view.View.{View}
use Rattle.heap_run.specs.Gains.{behind}
use Rattle.heap_run.specs.Riding.{StandsWith, asked_of, block_with, given_of, part_with}
use Rattle.heap_run.specs.Turns.{SaysAnswers}
use Rattle.heap_run.proofs.Firsts.{flushed-for, flushed-next}
use Rattle.heap_run.proofs.Gains.{behind-none, behind-push, kept-none, kept-push}
use Rattle.heap_run.proofs.Acted.{acted-none, acted-then, answers-then}
use Rattle.heap_run.proofs.Working.{acted-works}
use Rattle.heap_run.proofs.events.answer_all.Goals as goal

pub loop-turn-init : goal.loop-turn-init
loop-turn-init g c =
    let same : c.reserve.new.self.items ≡ c.args.answers.now = c.reserve.ensures.items ∙ c.into_vec-given.ensures ∙ c.replace.ensures.value in
    let same_too : c.reserve-2.new.self.items ≡ c.args.sampled.now = c.reserve-2.ensures.items ∙ c.into_vec-flags.ensures ∙ c.replace-2.ensures.value in
    let none = behind-none c.args.answers.now c.reserve.new.self.items same in
    let none_too = behind-none c.args.sampled.now c.reserve-2.new.self.items same_too in
    let long = ap (λ (l : List Answer). length l) same in
    let long_too = ap (λ (l : List Bool). length l) same_too in
    let room = c.in_ok-reserve.ensures.ok in
    let room_too = c.in_ok-reserve-2.ensures.ok in
    record {
      acted = rw none (acted-none (SaysAnswers (asked_of c.args.riding [] []) (given_of c.args.riding [] [])) c.args.hand.now c.requires.idle (none-asked c.args.riding [] (refl, refl)));
      riders = rw none (none-stand c.args.riding);
      block = rw none (c.new-tiny.ensures ∙ none-block c.args.riding);
      caching = c.requires.caching;
      number = refl;
      size = ap (λ (l : List Bool). length l) none_too;
      long = omega (arith, c.reserve.new.self.ok.0);
      long_too = omega (arith, c.reserve-2.new.self.ok.0);
      room = omega (arith, c.reserve.new.self.ok.0);
      room_too = omega (arith, c.reserve-2.new.self.ok.0);
      kept = kept-none c.args.answers.now c.reserve.new.self.items same;
      kept_too = kept-none c.args.sampled.now c.reserve-2.new.self.items same_too;
      sampled = rw (none, none_too) (none-flagged c.args.riding c.args.proc.now.countdown);
      spent_is = rw none (none-spent c.args.riding c.args.proc.now.countdown);
      counts = rw none_too (counts-none c.args.shop.now.marks.now c.args.hand.now c.args.hand.now refl refl);
      flushed = rw none (none-flushed c.args.riding c.args.proc.now c.args.hand.now);
    }

pub answer-requires-clause-works : goal.answer-requires-clause-works
answer-requires-clause-works g c = let i = c.loop-turn.invariant in acted-works c.args.shop.now.shared.now c.args.shop.now.ring.now c.args.shop.now.marks.now _ _ c.args.hand.now c.loop-turn.hand i.acted i.counts c.requires.works

pub answer-requires-clause-idle : goal.answer-requires-clause-idle
answer-requires-clause-idle g c = c.loop-turn.invariant.acted.idle

pub answer-requires-clause-caching : goal.answer-requires-clause-caching
answer-requires-clause-caching g c = rw (ap (λ (v : View). v.generation) c.loop-turn.invariant.acted.view) c.loop-turn.invariant.caching

pub push_reserved-requires : goal.push_reserved-requires
push_reserved-requires g c = (let i = c.loop-turn.invariant in let l = i.long in let r = i.room in let t = c.loop-turn-test.true in omega arith)

pub push_reserved-requires-in-loop-turn : goal.push_reserved-requires-in-loop-turn
push_reserved-requires-in-loop-turn g c = (let i = c.loop-turn.invariant in let l = i.long_too in let r = i.room_too in let t = c.loop-turn-test.true in omega arith)

pub loop-turn-preserved : goal.loop-turn-preserved
loop-turn-preserved g c =
    let i = c.loop-turn.invariant in
    let d : Event = record { proc = 0; size = 0; scan = false; stack = 0 } in
    let e = get_or c.args.events.now c.loop-turn.turn d in
    let few : c.loop-turn.turn < length c.args.buckets.now = (let b = c.requires.buckets in let t = c.loop-turn-test.true in omega arith) in
    let es : reverse (take (c.loop-turn.turn + 1) c.args.events.now) ≡ e ∷ reverse (take c.loop-turn.turn c.args.events.now) =
    ap (λ (l : List Event). reverse l) (take_more c.args.events.now c.loop-turn.turn d c.loop-turn-test.true) ∙ reverse-append (take c.loop-turn.turn c.args.events.now) (e ∷ []) in
    let was = c.args.answers.now in
    let was_too = c.args.sampled.now in
    let low : length was ≤ length c.loop-turn.given.items = (let l = i.long in omega (arith, c.loop-turn.given.ok.0)) in
    let low_too : length was_too ≤ length c.loop-turn.flags.items = (let l = i.long_too in omega (arith, c.loop-turn.flags.ok.0)) in
    let got = behind was c.loop-turn.given.items in
    let got_too = behind was_too c.loop-turn.flags.items in
    let more : behind was c.push_reserved.new.self.items ≡ got ++ c.in_ok-answer.answer ∷ [] = ap (λ (l : List Answer). behind was l) c.push_reserved.ensures.items ∙ behind-push was c.loop-turn.given.items c.in_ok-answer.answer low in
    let more_too : behind was_too c.push_reserved-in-loop-turn.new.self.items ≡ got_too ++ c.in_ok-answer.flag ∷ [] = ap (λ (l : List Bool). behind was_too l) c.push_reserved-in-loop-turn.ensures.items ∙ behind-push was_too c.loop-turn.flags.items c.in_ok-answer.flag low_too in
    let an : reverse (got ++ c.in_ok-answer.answer ∷ []) ≡ c.in_ok-answer.answer ∷ reverse got = reverse-append got (c.in_ok-answer.answer ∷ []) in
    let fl : reverse (got_too ++ c.in_ok-answer.flag ∷ []) ≡ c.in_ok-answer.flag ∷ reverse got_too = reverse-append got_too (c.in_ok-answer.flag ∷ []) in
    let turned = reverse (take c.loop-turn.turn c.args.events.now) in
    let asked = asked_of c.args.riding turned (reverse got) in
    let told = given_of c.args.riding turned (reverse got) in
    let a = c.in_ok-answer.answer in
    let part = part_with c.args.riding c.loop-turn.tiny e a in
    let next : asked_of c.args.riding (e ∷ turned) (a ∷ reverse got) ≡ based_event part e ∷ asked =
    asked-next c.args.riding e a turned (reverse got) ∙ ap (λ (b : Option Block). based_event (part_with c.args.riding b e a) e ∷ asked) (sym i.block) in
    let next_too : given_of c.args.riding (e ∷ turned) (a ∷ reverse got) ≡ based_answer part a ∷ told =
    given-next c.args.riding e a turned (reverse got) ∙ ap (λ (b : Option Block). based_answer (part_with c.args.riding b e a) a ∷ told) (sym i.block) in
    let longer = length-append got_too (c.in_ok-answer.flag ∷ []) in
    record {
      acted = rw (more, es, an, next, next_too) (acted-then _ _ _ c.args.hand.now c.loop-turn.hand c.answer.new.hand i.acted c.in_ok-answer.ensures.acted
          (λ first later was now. answers-then (based_event part e ∷ []) asked (based_answer part a ∷ []) told later first now was));
      riders = rw (more, es, an) (stand-next c.args.riding e a turned (reverse got) (subst (λ (b : Option Block). StandsWith c.args.riding b e a) i.block c.in_ok-answer.ensures.rides) i.riders);
      block = rw (more, es, an) (c.in_ok-answer.ensures.block ∙ ap (λ (b : Option Block). block_with c.args.riding b e a) i.block ∙ sym (block-next c.args.riding e a turned (reverse got)));
      caching = rw (sym (ap (λ (v : View). v.generation) i.acted.view)) c.in_ok-answer.ensures.caching;
      number = c.in_ok-answer.ensures.number ∙ i.number;
      size = ap (λ (l : List Bool). length l) more_too ∙ (let s = i.size in omega arith);
      long = c.push_reserved.ensures.len ∙ (let s = i.long in omega arith);
      long_too = c.push_reserved-in-loop-turn.ensures.len ∙ (let s = i.long_too in omega arith);
      room = rw c.push_reserved.ensures.capacity i.room;
      room_too = rw c.push_reserved-in-loop-turn.ensures.capacity i.room_too;
      kept = rw c.push_reserved.ensures.items (kept-push was c.loop-turn.given.items c.in_ok-answer.answer low i.kept);
      kept_too = rw c.push_reserved-in-loop-turn.ensures.items (kept-push was_too c.loop-turn.flags.items c.in_ok-answer.flag low_too i.kept_too);
      sampled = rw (more, more_too, es, an, fl, next, next_too) (flags-more c.args.proc.now.countdown asked told got_too (based_event part e) (based_answer part a) c.in_ok-answer.flag i.sampled
          (c.in_ok-answer.ensures.sampled ∙ ap (λ (x : Countdown). flag x (based_event part e) (based_answer part a)) i.spent_is));
      spent_is = rw (more, es, an, next, next_too) (c.in_ok-answer.ensures.spent ∙ ap (λ (x : Countdown). spends x (based_event part e) (based_answer part a)) i.spent_is);
      counts = rw more_too (counts-then c.args.shop.now.marks.now (sampled_counts got_too (take c.loop-turn.turn c.args.buckets.now)) (one_count c.in_ok-answer.flag (get_or c.args.buckets.now c.loop-turn.turn 0)) _ c.args.hand.now c.loop-turn.hand c.answer.new.hand
          i.counts c.in_ok-answer.ensures.counts
          (λ b. counts-next got_too c.args.buckets.now c.loop-turn.turn c.in_ok-answer.flag b few i.size));
      flushed = rw (more, es, an, next) (flushed-next asked (based_event part e) c.args.proc.now c.loop-turn.proc c.answer.new.proc c.args.hand.now c.loop-turn.hand c.answer.new.hand
          (ap (λ (v : View). v.generation) i.acted.view) i.flushed c.in_ok-answer.ensures.sizeless c.in_ok-answer.ensures.flushed);
    }

pub returns-clause-acted : goal.returns-clause-acted
returns-clause-acted g c =
    let whole = take_all c.loop-turn.turn c.args.events.now c.loop-turn-test.false in
    rw c.from_vec.ensures (rw whole at c.loop-turn.invariant.acted)

pub returns-clause-riders : goal.returns-clause-riders
returns-clause-riders g c =
    let whole = take_all c.loop-turn.turn c.args.events.now c.loop-turn-test.false in
    rw c.from_vec.ensures (rw whole at c.loop-turn.invariant.riders)

pub returns-clause-caching : goal.returns-clause-caching
returns-clause-caching g c = c.loop-turn.invariant.caching

pub returns-clause-number : goal.returns-clause-number
returns-clause-number g c = c.loop-turn.invariant.number

pub returns-clause-sampled : goal.returns-clause-sampled
returns-clause-sampled g c =
    let whole = take_all c.loop-turn.turn c.args.events.now c.loop-turn-test.false in
    rw (c.from_vec.ensures, c.from_vec-2.ensures) (rw whole at c.loop-turn.invariant.sampled)

pub returns-clause-spent : goal.returns-clause-spent
returns-clause-spent g c =
    let whole = take_all c.loop-turn.turn c.args.events.now c.loop-turn-test.false in
    rw c.from_vec.ensures (rw whole at c.loop-turn.invariant.spent_is)

pub returns-clause-counts : goal.returns-clause-counts
returns-clause-counts g c =
    let whole = take_all c.loop-turn.turn c.args.buckets.now (let l = c.loop-turn-test.false in let b = c.requires.buckets in omega arith) in
    rw c.from_vec-2.ensures (rw whole at c.loop-turn.invariant.counts)

pub returns-clause-flushed : goal.returns-clause-flushed
returns-clause-flushed g c =
    let whole = take_all c.loop-turn.turn c.args.events.now c.loop-turn-test.false in
    let asked = asked_of c.args.riding (reverse c.args.events.now) (reverse (behind c.args.answers.now c.loop-turn.given.items)) in
    rw c.from_vec.ensures (flushed-for asked c.args.proc.now c.loop-turn.proc c.args.hand.now c.loop-turn.hand (rw whole at c.loop-turn.invariant.flushed))

pub returns-clause-kept : goal.returns-clause-kept
returns-clause-kept g c = (rw c.from_vec.ensures c.loop-turn.invariant.kept, rw c.from_vec-2.ensures c.loop-turn.invariant.kept_too)
