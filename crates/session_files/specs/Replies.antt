-- The replies as text: one a line.
use Rattle.std.specs.Prelude.{ℕ, ◌+◌, List, ◌++◌, codes}
use Rattle.std.specs.List.{flat_map}
use Rattle.cut_form.specs.declared.script.Reply.{Reply}
use Rattle.cut_form.specs.Session.{reply_text}

abbrev pub reply_line : Reply → List ℕ
reply_line reply = reply_text reply ++ codes "\n"

abbrev pub report_on : List Reply → List ℕ
report_on replies = flat_map reply_line replies

-- the most bytes of a reply, and of its line
abbrev pub max_text_bytes : ℕ
max_text_bytes = 79

abbrev pub max_reply_bytes : ℕ
max_reply_bytes = max_text_bytes + 1
