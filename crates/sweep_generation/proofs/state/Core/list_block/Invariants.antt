use Rattle.std.proofs.Common.{◌≡◌, ◌≤◌, length, take}
use Rattle.std.specs.List.{filter, range_with_len}
use Rattle.sweep_laws.specs.Reading.{is_free_page}
use Rattle.sweep_generation.proofs.state.Core.list_block.Given as goal

abbrev pub invariant-loop-k : goal.invariant-loop-k
invariant-loop-k l = record {
  few : l.count ≤ l.k;
  space : length l.block ≡ 64;
  pages : take l.count l.block ≡ filter (is_free_page l.self) (range_with_len l.start l.k);
}
