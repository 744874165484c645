-- A call as it is noted.
use Rattle.snd_host.specs.Calls.{Call, opened, not_opened, read, not_read, created, not_created, wrote, not_written, finished, not_finished}
use Rattle.snd_host.specs.declared.log.Noted.{Noted}
use Rattle.snd_host.specs.declared.log.Noted.TheVariants as noted

-- the call that a note stands for
abbrev pub call_of : Noted → Call
call_of (noted.Opened name file) = opened name.now file
call_of (noted.NotOpened name) = not_opened name.now
call_of (noted.Read file room bytes) = read file room bytes.now
call_of (noted.NotRead file room) = not_read file room
call_of (noted.Created name file) = created name.now file
call_of (noted.NotCreated name) = not_created name.now
call_of (noted.Wrote file bytes) = wrote file bytes.now
call_of (noted.NotWritten file piece) = not_written file piece.now
call_of (noted.Finished file) = finished file
call_of (noted.NotFinished file) = not_finished file
