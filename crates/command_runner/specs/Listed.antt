-- The outputs and the report that a plan of a list of outputs makes.
use Rattle.std.specs.Prelude.{◌++◌, map, string_bytes}
use Rattle.snd_host.specs.Host.{Output}
use Rattle.command_runner.specs.Conduct.{Delivery}
use Rattle.command_runner.specs.Stream.{Both}
use Rattle.command_runner.specs.declared.lists.ListedOutput.{ListedOutput}
use Rattle.command_runner.specs.declared.lists.ListPlan.{ListPlan}

-- an output of the list, by what its source is to make
abbrev pub listed_output : {P : Type 0} → (to_come : P → Both) → ListedOutput P → Output
listed_output to_come output = record { name = string_bytes output.name; bytes = output.head.items ++ (to_come output.source).wave }

abbrev pub list_makes : {P : Type 0} → (to_come : P → Both) → ListPlan P → Delivery
list_makes to_come plan = record { outputs = map (listed_output to_come) plan.outputs.items; report = plan.report.items }
