-- Requests that lines ask.
use Rattle.std.specs.Prelude.{◌≡◌, true}
use Rattle.gtp_world.specs.Commands.{is_command}
use Rattle.gtp_serve.specs.declared.request.Request.{Request}
use Rattle.gtp_serve.specs.declared.request.Request.TheVariants.{Command}

-- the event of a command is one
abbrev pub IsAsked : Request → Type 0
IsAsked (Command event) = is_command event ≡ true
IsAsked request = Unit {0}
