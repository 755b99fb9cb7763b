use Rattle.std.proofs.Common.{◌≡◌, ◌++◌, take}
use Rattle.dis_formats.proofs.formats.push_codes.Given as goal

-- The characters so far stand behind what was there.
abbrev pub invariant-loop-code : goal.invariant-loop-code
invariant-loop-code l = l.text ≡ l.initial.text ++ take l.code-index l.codes
