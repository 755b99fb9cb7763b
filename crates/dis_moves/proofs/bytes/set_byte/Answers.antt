use Rattle.std.proofs.Common.{◌≡◌, ◌/◌, ◌%◌, rules}
use Rattle.dis_meaning.specs.Numbers.{nth_number, with_byte}
use Rattle.dis_meaning.specs.Words.{Plain, Found}
use Rattle.dis_places.specs.Words.{view_word, view_words}
use Rattle.dis_moves.proofs.Windows.{set_gives}
use Rattle.dis_moves.proofs.bytes.set_byte.Goals as goal

pub returns : goal.returns
returns c =
    let row = c.args.row.now.items in
    let n = c.args.n in
    let old = c.in_ok-old.old in
    let there : nth_number (view_words row) (n / 4) ≡ Found old = search rules in
    let word : view_word c.plain-word.result ≡ Plain (with_byte old (n % 4) c.args.byte) = search rules in
    set_gives row n c.args.byte old c.plain-word.result there word
