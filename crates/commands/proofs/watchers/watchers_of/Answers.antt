use Rattle.std.proofs.Common.{◌≡◌, codes, length, rules, string_bytes}
use Rattle.commands.proofs.WatchersAsked.{asked_watchers}
use Rattle.commands.proofs.watchers.watchers_of.Goals as goal

pub returns : goal.returns
returns c =
    let two : length c.args.words.now ≡ 2 = search rules in
    let name : string_bytes c.index-words-0.result ≡ codes "watch" = search rules in
    let word : c.as_bytes.result.now ≡ string_bytes c.index-words-1.result = search rules in
    asked_watchers c.args.words.now c.index-words-0.result c.index-words-1.result c.as_bytes.result.now two name c.index-words-0.is c.index-words-1.is word c.read_watchers.result c.read_watchers.ensures
