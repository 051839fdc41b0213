use Rattle.std.proofs.Common.{◌≡◌, ◌*◌, ◌^◌, length, sym, ap, ◌∙◌}
use Rattle.std.proofs.lemmas.List.{with_items_is}
use Rattle.page_summary.specs.Sums.{IsSum, AreSums}
use Rattle.page_summary.specs.SumLaws.{sums-fit}
use Rattle.page_alloc.specs.Region.{free_in}
use Rattle.page_alloc.proofs.levels.Levels.update.Goals as goal

pub rebuild-requires-clause-fit : goal.rebuild-requires-clause-fit
rebuild-requires-clause-fit c =
    let long4 : length c.refresh.new.level ≡ length c.args.self.now.level_4.items = c.refresh.auto.level ∙ ap length c.as_mut_slice.ensures.value in
    let items4 = with_items_is c.args.self.now.level_4 c.refresh.new.level (long4 ∙ sym c.args.self.now.level_4.ok.0) in
    let new4 : AreSums (free_in c.args.chunks.now) 512 c.refresh.new.level = c.refresh.ensures in
    let right4 : AreSums (free_in c.args.chunks.now) 512 c.as_slice.result.now = rw (c.as_slice.ensures.value ∙ items4) new4 in
    sums-fit (free_in c.args.chunks.now) 512 _ right4

pub rebuild-requires-2-clause-fit : goal.rebuild-requires-2-clause-fit
rebuild-requires-2-clause-fit c =
    let long4 : length c.refresh.new.level ≡ length c.args.self.now.level_4.items = c.refresh.auto.level ∙ ap length c.as_mut_slice.ensures.value in
    let items4 = with_items_is c.args.self.now.level_4 c.refresh.new.level (long4 ∙ sym c.args.self.now.level_4.ok.0) in
    let new4 : AreSums (free_in c.args.chunks.now) 512 c.refresh.new.level = c.refresh.ensures in
    let right4 : AreSums (free_in c.args.chunks.now) 512 c.as_slice.result.now = rw (c.as_slice.ensures.value ∙ items4) new4 in
    let long3 : length c.rebuild.new.level ≡ length c.args.self.now.level_3.items = c.rebuild.auto.level ∙ ap length c.as_mut_slice-2.ensures.value in
    let items3 = with_items_is c.args.self.now.level_3 c.rebuild.new.level (long3 ∙ sym c.args.self.now.level_3.ok.0) in
    let new3 : AreSums (free_in c.args.chunks.now) 4096 c.rebuild.new.level = c.rebuild.ensures.sums (free_in c.args.chunks.now) right4 (rw c.as_mut_slice-2.ensures.value c.requires.others.sums_3) in
    let right3 : AreSums (free_in c.args.chunks.now) 4096 c.as_slice-2.result.now = rw (c.as_slice-2.ensures.value ∙ items3) new3 in
    sums-fit (free_in c.args.chunks.now) 4096 _ right3

pub rebuild-requires-3-clause-fit : goal.rebuild-requires-3-clause-fit
rebuild-requires-3-clause-fit c =
    let long4 : length c.refresh.new.level ≡ length c.args.self.now.level_4.items = c.refresh.auto.level ∙ ap length c.as_mut_slice.ensures.value in
    let items4 = with_items_is c.args.self.now.level_4 c.refresh.new.level (long4 ∙ sym c.args.self.now.level_4.ok.0) in
    let new4 : AreSums (free_in c.args.chunks.now) 512 c.refresh.new.level = c.refresh.ensures in
    let right4 : AreSums (free_in c.args.chunks.now) 512 c.as_slice.result.now = rw (c.as_slice.ensures.value ∙ items4) new4 in
    let long3 : length c.rebuild.new.level ≡ length c.args.self.now.level_3.items = c.rebuild.auto.level ∙ ap length c.as_mut_slice-2.ensures.value in
    let items3 = with_items_is c.args.self.now.level_3 c.rebuild.new.level (long3 ∙ sym c.args.self.now.level_3.ok.0) in
    let new3 : AreSums (free_in c.args.chunks.now) 4096 c.rebuild.new.level = c.rebuild.ensures.sums (free_in c.args.chunks.now) right4 (rw c.as_mut_slice-2.ensures.value c.requires.others.sums_3) in
    let right3 : AreSums (free_in c.args.chunks.now) 4096 c.as_slice-2.result.now = rw (c.as_slice-2.ensures.value ∙ items3) new3 in
    let long2 : length c.rebuild-2.new.level ≡ length c.args.self.now.level_2.items = c.rebuild-2.auto.level ∙ ap length c.as_mut_slice-3.ensures.value in
    let items2 = with_items_is c.args.self.now.level_2 c.rebuild-2.new.level (long2 ∙ sym c.args.self.now.level_2.ok.0) in
    let new2 : AreSums (free_in c.args.chunks.now) 32768 c.rebuild-2.new.level = c.rebuild-2.ensures.sums (free_in c.args.chunks.now) right3 (rw c.as_mut_slice-3.ensures.value c.requires.others.sums_2) in
    let right2 : AreSums (free_in c.args.chunks.now) 32768 c.as_slice-3.result.now = rw (c.as_slice-3.ensures.value ∙ items2) new2 in
    sums-fit (free_in c.args.chunks.now) 32768 _ right2

pub merge-self-requires-clause-fit : goal.merge-self-requires-clause-fit
merge-self-requires-clause-fit c =
    let long4 : length c.refresh.new.level ≡ length c.args.self.now.level_4.items = c.refresh.auto.level ∙ ap length c.as_mut_slice.ensures.value in
    let items4 = with_items_is c.args.self.now.level_4 c.refresh.new.level (long4 ∙ sym c.args.self.now.level_4.ok.0) in
    let new4 : AreSums (free_in c.args.chunks.now) 512 c.refresh.new.level = c.refresh.ensures in
    let right4 : AreSums (free_in c.args.chunks.now) 512 c.as_slice.result.now = rw (c.as_slice.ensures.value ∙ items4) new4 in
    let long3 : length c.rebuild.new.level ≡ length c.args.self.now.level_3.items = c.rebuild.auto.level ∙ ap length c.as_mut_slice-2.ensures.value in
    let items3 = with_items_is c.args.self.now.level_3 c.rebuild.new.level (long3 ∙ sym c.args.self.now.level_3.ok.0) in
    let new3 : AreSums (free_in c.args.chunks.now) 4096 c.rebuild.new.level = c.rebuild.ensures.sums (free_in c.args.chunks.now) right4 (rw c.as_mut_slice-2.ensures.value c.requires.others.sums_3) in
    let right3 : AreSums (free_in c.args.chunks.now) 4096 c.as_slice-2.result.now = rw (c.as_slice-2.ensures.value ∙ items3) new3 in
    let long2 : length c.rebuild-2.new.level ≡ length c.args.self.now.level_2.items = c.rebuild-2.auto.level ∙ ap length c.as_mut_slice-3.ensures.value in
    let items2 = with_items_is c.args.self.now.level_2 c.rebuild-2.new.level (long2 ∙ sym c.args.self.now.level_2.ok.0) in
    let new2 : AreSums (free_in c.args.chunks.now) 32768 c.rebuild-2.new.level = c.rebuild-2.ensures.sums (free_in c.args.chunks.now) right3 (rw c.as_mut_slice-3.ensures.value c.requires.others.sums_2) in
    let right2 : AreSums (free_in c.args.chunks.now) 32768 c.as_slice-3.result.now = rw (c.as_slice-3.ensures.value ∙ items2) new2 in
    let long1 : length c.rebuild-3.new.level ≡ length c.args.self.now.level_1.items = c.rebuild-3.auto.level ∙ ap length c.as_mut_slice-4.ensures.value in
    let items1 = with_items_is c.args.self.now.level_1 c.rebuild-3.new.level (long1 ∙ sym c.args.self.now.level_1.ok.0) in
    let new1 : AreSums (free_in c.args.chunks.now) 262144 c.rebuild-3.new.level = c.rebuild-3.ensures.sums (free_in c.args.chunks.now) right2 (rw c.as_mut_slice-4.ensures.value c.requires.others.sums_1) in
    let right1 : AreSums (free_in c.args.chunks.now) 262144 c.as_slice-4.result.now = rw (c.as_slice-4.ensures.value ∙ items1) new1 in
    sums-fit (free_in c.args.chunks.now) 262144 _ right1

pub returns : goal.returns
returns c =
    let long4 : length c.refresh.new.level ≡ length c.args.self.now.level_4.items = c.refresh.auto.level ∙ ap length c.as_mut_slice.ensures.value in
    let items4 = with_items_is c.args.self.now.level_4 c.refresh.new.level (long4 ∙ sym c.args.self.now.level_4.ok.0) in
    let new4 : AreSums (free_in c.args.chunks.now) 512 c.refresh.new.level = c.refresh.ensures in
    let right4 : AreSums (free_in c.args.chunks.now) 512 c.as_slice.result.now = rw (c.as_slice.ensures.value ∙ items4) new4 in
    let long3 : length c.rebuild.new.level ≡ length c.args.self.now.level_3.items = c.rebuild.auto.level ∙ ap length c.as_mut_slice-2.ensures.value in
    let items3 = with_items_is c.args.self.now.level_3 c.rebuild.new.level (long3 ∙ sym c.args.self.now.level_3.ok.0) in
    let new3 : AreSums (free_in c.args.chunks.now) 4096 c.rebuild.new.level = c.rebuild.ensures.sums (free_in c.args.chunks.now) right4 (rw c.as_mut_slice-2.ensures.value c.requires.others.sums_3) in
    let right3 : AreSums (free_in c.args.chunks.now) 4096 c.as_slice-2.result.now = rw (c.as_slice-2.ensures.value ∙ items3) new3 in
    let long2 : length c.rebuild-2.new.level ≡ length c.args.self.now.level_2.items = c.rebuild-2.auto.level ∙ ap length c.as_mut_slice-3.ensures.value in
    let items2 = with_items_is c.args.self.now.level_2 c.rebuild-2.new.level (long2 ∙ sym c.args.self.now.level_2.ok.0) in
    let new2 : AreSums (free_in c.args.chunks.now) 32768 c.rebuild-2.new.level = c.rebuild-2.ensures.sums (free_in c.args.chunks.now) right3 (rw c.as_mut_slice-3.ensures.value c.requires.others.sums_2) in
    let right2 : AreSums (free_in c.args.chunks.now) 32768 c.as_slice-3.result.now = rw (c.as_slice-3.ensures.value ∙ items2) new2 in
    let long1 : length c.rebuild-3.new.level ≡ length c.args.self.now.level_1.items = c.rebuild-3.auto.level ∙ ap length c.as_mut_slice-4.ensures.value in
    let items1 = with_items_is c.args.self.now.level_1 c.rebuild-3.new.level (long1 ∙ sym c.args.self.now.level_1.ok.0) in
    let new1 : AreSums (free_in c.args.chunks.now) 262144 c.rebuild-3.new.level = c.rebuild-3.ensures.sums (free_in c.args.chunks.now) right2 (rw c.as_mut_slice-4.ensures.value c.requires.others.sums_1) in
    let right1 : AreSums (free_in c.args.chunks.now) 262144 c.as_slice-4.result.now = rw (c.as_slice-4.ensures.value ∙ items1) new1 in
    let cut = c.requires.others.cut in
    let eight : length c.as_slice-4.result.now ≡ 8 = ap length (c.as_slice-4.ensures.value ∙ items1) ∙ (long1 ∙ cut.entries_1) in
    let joined : IsSum (free_in c.args.chunks.now) (2 ^ 18 * length c.as_slice-4.result.now) c.merge-self.result = c.merge-self.ensures.sum (free_in c.args.chunks.now) right1 in
    record {
      cut = record {
        entries_1 = ap length items1 ∙ (long1 ∙ cut.entries_1);
        entries_2 = ap length items2 ∙ (long2 ∙ cut.entries_2);
        entries_3 = ap length items3 ∙ (long3 ∙ cut.entries_3);
        entries_4 = ap length items4 ∙ (long4 ∙ cut.entries_4);
      };
      top = rw eight at joined;
      sums_1 = rw items1 new1;
      sums_2 = rw items2 new2;
      sums_3 = rw items3 new3;
      sums_4 = rw items4 new4;
    }
