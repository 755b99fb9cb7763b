-- What holds of values.
use Rattle.std.specs.Prelude.{◌≡◌, ℕ, List}
use Rattle.limbo_constants.specs.declared.constant.Constant.{Constant}
use Rattle.limbo_entries.specs.Entries.{Entry, AreOnce}
use Rattle.limbo_constant_values.specs.Values.{HasValue}

-- A constant has at most one value, where each scope has each name once.
abbrev pub OneValue : Type 0
OneValue = (es : List Entry) (m k : ℕ) (c d : Constant) → AreOnce es → HasValue es m k c → HasValue es m k d → c ≡ d
