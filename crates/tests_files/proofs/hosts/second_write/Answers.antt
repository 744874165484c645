use Rattle.std.proofs.Common.{◌≡◌, Bool, true, ◌||◌, nat_lt, get_or, refl, ◌∙◌, ap}
use Rattle.snd_host.specs.Memory.{is_listed, rooms_of}
use Rattle.tests_files.proofs.hosts.second_write.Goals as goal

-- the second call has the number 1, which is listed
pub returns : goal.returns
returns c =
    let listed : is_listed c.write.new.self ≡ true = rw (c.write.ensures.counted.calls, c.write.ensures.counted.failing, c.requires.none_yet, c.requires.second_fails) refl in
    c.write-2.ensures.fails ∙ ap (λ (b : Bool). b || nat_lt (get_or (rooms_of c.write.new.self) 0 0) 1) listed
