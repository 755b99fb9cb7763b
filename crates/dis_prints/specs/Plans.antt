-- What a print comes to, and what is done then.
use Rattle.std.specs.Prelude.{ℤ, List}
use Rattle.system_model.specs.Prints.{Printing, print}
use Rattle.sys_print.specs.declared.prints.Printing as code_printing
use Rattle.sys_print.specs.declared.prints.Printing.TheVariants as printing
use Rattle.sys_print.specs.Printing.{view_printing}
use Rattle.dis_meaning.specs.Words.{Place, Word, Access, Found, ◌>>=◌}
use Rattle.dis_meaning.specs.Process.{Process}
use Rattle.dis_meaning.specs.Places.{place_in}
use Rattle.dis_meaning.specs.Step.{place_of}
use Rattle.dis_memory.specs.Blocks.{World}
use Rattle.dis_memory.specs.Control.{outside_of, answer_spot, printed, prints}
use Rattle.dis_memory.specs.Process.{Does}
use Rattle.dis_places.specs.View.{view_place}
use Rattle.dis_prints.specs.declared.printing.Plan as code_plan

-- Where an answer goes.
pub record Target : Type 0 where
  pub place : Place
  pub at : ℤ

abbrev pub answer_target : List Word → Access Target
answer_target words = answer_spot words >>= λ s. place_of s >>= λ place. Found (record { place = place; at = place_in s })

-- What it comes to, and where its answer goes.
pub record Plan : Type 0 where
  pub target : Target
  pub printing : Printing

abbrev pub view_plan : code_plan.Plan → Plan
view_plan p = record { target = record { place = view_place p.place; at = p.at }; printing = view_printing p.printing }

-- Of the print of a frame with these words.
abbrev pub planned : World → List Word → Access Plan
planned x words =
    printed x words >>= λ text. answer_target words >>= λ t. Found (record { target = t; printing = print (outside_of x) text })

abbrev pub carried_out : World → Process → Plan → Access Does
carried_out x p plan = prints x p plan.target.place plan.target.at plan.printing

-- It answers or asks.
abbrev pub IsPrint : code_printing.Printing → Type 0
IsPrint (printing.Answers w v) = Unit {0}
IsPrint (printing.Requests w m k) = Unit {0}
IsPrint printing.NoReply = ⊥
