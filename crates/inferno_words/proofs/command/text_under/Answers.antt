use Rattle.std.proofs.Common.{option_map, rules, ◌≡◌, ◌∙◌, sym, ap, Some}
use Rattle.std.specs.Str.{chars}
use Rattle.std.proofs.lemmas.Str.{chars_from_encodes}
use Rattle.clap.specs.Words.{first_of, first_value, found_of, rows_of}
use Rattle.clap.proofs.WalkLemmas.{first_value-rows}
use Rattle.inferno_words.proofs.command.text_under.Goals as goal

pub returns : goal.returns
returns c =
    let found = found_of c.args.matches.now in
    let name = c.args.name.now in
    let word = c.unwrap-word.result.now in
    let read : c.in_ok-chars.chars.items ≡ chars word = search (rules, chars_from_encodes) in
    let given : first_value found name ≡ Some word = rw c.unwrap-word.ensures at (sym c.get_str.ensures) in
    let said : first_of name (rows_of found) ≡ Some word = sym (first_value-rows found name) ∙ given in
    ap (option_map chars) said ∙ ap Some (sym (c.from_vec.ensures ∙ read))
