-- Why a player is not opened, by the readers of its inputs.
use Rattle.gauss_table.specs.declared.refusal.TableRefusal.{TableRefusal}
use Rattle.gauss_table.specs.declared.refusal.TableRefusal.TheVariants as table_refusals
use Rattle.spc_form.specs.declared.reading.SpcRefusal.{SpcRefusal}
use Rattle.spc_form.specs.declared.reading.SpcRefusal.TheVariants as spc_refusals
use Rattle.spc_player.specs.declared.refusal.PlayerRefusal.{PlayerRefusal}
use Rattle.spc_player.specs.declared.refusal.PlayerRefusal.TheVariants.{SpcLength, SpcSignature, TableLength, OutOfMemory}

-- why bytes are no file, and why others are no table
abbrev pub of_spc : SpcRefusal → PlayerRefusal
of_spc (spc_refusals.Length n) = SpcLength n
of_spc (spc_refusals.Signature at) = SpcSignature at
of_spc spc_refusals.OutOfMemory = OutOfMemory

abbrev pub of_table : TableRefusal → PlayerRefusal
of_table (table_refusals.Length n) = TableLength n
of_table table_refusals.OutOfMemory = OutOfMemory
