-- What a failed read leaves of a whole input.
use Rattle.std.proofs.Common.{◌≡◌, ℕ, List, [], ◌++◌, length, Option, Some, refl, ap, subst, inl, inr, arith, length-append}
use Rattle.std.specs.Io.KnownBytes.{Consumes}
use Rattle.std.proofs.KnownBytes.{Consumes-trans}
use Rattle.edge_io.specs.declared.lines.Lines.{Lines}
use Rattle.edge_io.specs.Reading.{line_of, lines_left, number_of, room_of, source_of}
use Rattle.trace_reader.specs.declared.trace.Trace.{Trace}
use Rattle.trace_reader.specs.declared.fault.TraceFault.TheVariants.{Truncated}
use Rattle.trace_reader.specs.Limits.{Spells}
use Rattle.trace_reader.specs.Spelling.{statements_of}
use Rattle.trace_reader.specs.Refusal.{lines_fault, next_number, pieces_of}
use Rattle.trace_reader.specs.Taken.{TakesLines}
use Rattle.trace_reader.specs.Told.{BreaksInLine, BreaksInTrace}
use Rattle.trace_reader.specs.BrokenOff.{BreaksOff, EndsEarly}

-- in a line of the trace
pub broken_in_trace : {S : Type 0} (behind : List ℕ → Type 0) (left : S → Option (List ℕ)) (a b : Lines S) → number_of a ≡ 0 → room_of a ≡ 67108864 → BreaksInTrace left a b []
    → EndsEarly behind (lines_left left a) (left (source_of b))
broken_in_trace behind left a b number room off = record {
  bytes = off.bytes;
  taken = subst (λ (o : Option (List ℕ)). Consumes (lines_left left a) o off.bytes) off.all_used off.taken;
  unended = inl (
    number_of b,
    λ more. subst (λ (k : ℕ). lines_fault more (next_number 0) k [] (pieces_of off.bytes) ≡ Some (Truncated (number_of b))) room
        (subst (λ (k : ℕ). lines_fault more (next_number k) (room_of a) [] (pieces_of off.bytes) ≡ Some (Truncated (number_of b))) number (off.ends_early more)),
  );
}

-- in the line behind a trace
pub broken_behind : {S : Type 0} (left : S → Option (List ℕ)) (a m b : Lines S) (front : List ℕ) (t : Trace) → room_of a ≡ 67108864 → Consumes (lines_left left a) (lines_left left m) front → Spells front t
    → TakesLines left a m (statements_of t) → BreaksInLine left m b → BreaksOff (lines_left left a) (left (source_of b))
broken_behind left a m b front t room taken spells takes off =
    let line = line_of b in
    let same = ap length spells.lines in
    let before = takes.bytes.room in
    let after = off.in_line.room in
    let all = length-append front line in
    record {
      bytes = front ++ line;
      taken = subst (λ (o : Option (List ℕ)). Consumes (lines_left left a) o (front ++ line)) off.all_used (Consumes-trans _ _ _ front line taken off.in_line.taken);
      unended = inr (record { front = front; rest = line; split = refl; trace = t; spelled = spells; is_line = off.in_line.is_line; room = omega arith });
    }
