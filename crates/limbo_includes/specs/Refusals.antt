-- What each refusal says of a source.
use Rattle.std.specs.Prelude.{◌≡◌, ℕ, List, Some, slice_get}
use Rattle.inf_text.specs.declared.span.Span.{Span}
use Rattle.limbo_includes.specs.declared.included.Included.{Included}
use Rattle.limbo_includes.specs.declared.links.Link.{Link}
use Rattle.limbo_includes.specs.declared.fault.IncludeFault.{IncludeFault}
use Rattle.limbo_includes.specs.declared.fault.IncludeFault.TheVariants.{NoMemory, NoInclude, Twice, TooDeep}
use Rattle.limbo_includes.specs.Includes.{Given, IsTooDeep, LacksAt, IsWhole, IsTwice}
use Rattle.limbo_includes.specs.Links.{Page, pages}

-- Too deep comes before what lacks, and that before what stands twice.
abbrev pub Says : Given → IncludeFault → Type 0
Says g NoMemory = Unit {0}
Says g (NoInclude path at) = LacksAt g path at × (IsTooDeep g → ⊥)
Says g (Twice path at) = IsWhole g × IsTwice g
Says g TooDeep = IsTooDeep g

-- what holds where a refusal is this one
abbrev pub IfNoInclude : IncludeFault → (List ℕ → Span → Type 0) → Type 0
IfNoInclude (NoInclude path at) P = P path at
IfNoInclude NoMemory P = Unit {0}
IfNoInclude (Twice path at) P = Unit {0}
IfNoInclude TooDeep P = Unit {0}

abbrev pub IfTwice : IncludeFault → Type 0 → Type 0
IfTwice (Twice path at) P = P
IfTwice NoMemory P = Unit {0}
IfTwice (NoInclude path at) P = Unit {0}
IfTwice TooDeep P = Unit {0}

abbrev pub IfTooDeep : IncludeFault → Type 0 → Type 0
IfTooDeep TooDeep P = P
IfTooDeep NoMemory P = Unit {0}
IfTooDeep (NoInclude path at) P = Unit {0}
IfTooDeep (Twice path at) P = Unit {0}

-- The refusal is that of an include, in the text of its number, that names no text.
abbrev pub IsRefusalAt : List ℕ → List Included → Link → IncludeFault → Type 0
IsRefusalAt path included link e =
    (g : Given) (page : Page) → g.path ≡ path → g.included ≡ included → slice_get (pages g) link.from ≡ Some page
    → e ≡ NoInclude page.path link.at
