-- Tests of types; that each says what the definition says is proved of it.
use Rattle.std.specs.Prelude.{ℕ, Bool, true, false, not, nat_lt, ◌==◌, ◌&&◌, ◌||◌, List, length, Option, Some, None, slice_get}
use Rattle.limbo_types.specs.Types.{Ty, Tys, ArrayOf, ListOf, ChanOf, Tuple, Adt, RefAdt, RefPick, Module, NoTys, MoreTys}
use Rattle.limbo_layout.specs.Adts.{Def}

abbrev pub is_number : Option ℕ → ℕ → Bool
is_number (Some m) n = m == n
is_number None n = false

abbrev pub is_user_module : Option ℕ → Ty → Bool
is_user_module system (Module n) = not (is_number system n)
is_user_module system _ = false

abbrev mutual
  pub has_module : Option ℕ → Ty → Bool
  has_module system (ArrayOf t) = has_module system t
  has_module system (ListOf t) = has_module system t
  has_module system (ChanOf t) = has_module system t
  has_module system (Tuple ts) = some_has_module system ts
  has_module system t = is_user_module system t

  pub some_has_module : Option ℕ → Tys → Bool
  some_has_module system NoTys = false
  some_has_module system (MoreTys t ts) = has_module system t || some_has_module system ts

abbrev pub holds_module : Option ℕ → Ty → Bool
holds_module system (ArrayOf t) = has_module system t
holds_module system (ListOf t) = has_module system t
holds_module system (ChanOf t) = has_module system t
holds_module system (Tuple ts) = some_has_module system ts
holds_module system _ = false

abbrev mutual
  pub holds_fd : Option ℕ → Ty → Bool
  holds_fd fd (ArrayOf t) = holds_fd fd t
  holds_fd fd (ListOf t) = holds_fd fd t
  holds_fd fd (ChanOf t) = holds_fd fd t
  holds_fd fd (Tuple ts) = some_holds_fd fd ts
  holds_fd fd (Adt n) = is_number fd n
  holds_fd fd _ = false

  pub some_holds_fd : Option ℕ → Tys → Bool
  some_holds_fd fd NoTys = false
  some_holds_fd fd (MoreTys t ts) = holds_fd fd t || some_holds_fd fd ts

abbrev pub has_variant : Option Def → ℕ → Bool
has_variant None v = false
has_variant (Some d) v = nat_lt v (length d.picks)

abbrev mutual
  pub is_named : List Def → ℕ → Ty → Bool
  is_named defs modules (ArrayOf t) = is_named defs modules t
  is_named defs modules (ListOf t) = is_named defs modules t
  is_named defs modules (ChanOf t) = is_named defs modules t
  is_named defs modules (Tuple ts) = all_named defs modules ts
  is_named defs modules (Adt n) = nat_lt n (length defs)
  is_named defs modules (RefAdt n) = nat_lt n (length defs)
  is_named defs modules (RefPick n v) = has_variant (slice_get defs n) v
  is_named defs modules (Module n) = nat_lt n modules
  is_named defs modules _ = true

  pub all_named : List Def → ℕ → Tys → Bool
  all_named defs modules NoTys = true
  all_named defs modules (MoreTys t ts) = is_named defs modules t && all_named defs modules ts
