use Rattle.std.proofs.Common.{◌≡◌, codes, length, rules, string_bytes}
use Rattle.commands.proofs.PiecesAsked.{asked_pieces}
use Rattle.commands.proofs.pieces.pieces_of.Goals as goal

pub returns : goal.returns
returns c =
    let two : length c.args.words.now ≡ 2 = search rules in
    let name : string_bytes c.index-words-0.result ≡ codes "check" = search rules in
    let word : c.as_bytes.result.now ≡ string_bytes c.index-words-1.result = search rules in
    asked_pieces c.args.words.now c.index-words-0.result c.index-words-1.result c.as_bytes.result.now two name c.index-words-0.is c.index-words-1.is word c.read_pieces.result c.read_pieces.ensures
