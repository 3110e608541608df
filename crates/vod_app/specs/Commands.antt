-- The words of a command as the program reads them; this project's own.
use Rattle.std.specs.Prelude.{ℕ, Bool, true, false, ◌==◌, bytes_eq, codes, List, Option, Some, None, option_and_then, if◌then◌else◌}
use Rattle.vod_types.specs.Numbers.{number_up_to}
use Rattle.list_model.specs.Command.{Command, Requested, get, reads, plan, pack, serve, turns, rehearse}
use Rattle.vod_app.specs.declared.words.Order.{Order}
use Rattle.vod_app.specs.declared.words.Order.TheVariants as orders
use Rattle.vod_app.specs.declared.words.Request.{Request}
use Rattle.vod_app.specs.declared.words.Command as words
use Rattle.vod_app.specs.declared.words.Command.TheVariants as commands

-- what a request asks for
abbrev pub requested : Request → Requested
requested request = record { root = request.root.now; settings = request.settings.now; path = request.path.now }

-- a count from 1 to `most`
abbrev pub count_up_to : ℕ → List ℕ → Option ℕ
count_up_to most text = option_and_then (λ n. if n == 0 then None else Some n) (number_up_to most text)

-- the order in which a form serves connections, and how many of them it takes at most
abbrev pub order_of_form : List ℕ → Option (Order × ℕ)
order_of_form word =
    if bytes_eq (codes "serve") word then Some (orders.OneByOne, 4294967295) else (if bytes_eq (codes "turns") word then Some (orders.InTurns, 64) else None)

-- the command that serves connections in an order
abbrev pub serving : Order → List ℕ → List ℕ → List ℕ → ℕ → Command
serving orders.OneByOne = serve
serving orders.InTurns = turns

-- the command opens the door
abbrev pub opens_door : Option Command → Bool
opens_door None = false
opens_door (Some (get q)) = false
opens_door (Some (reads q)) = false
opens_door (Some (plan q)) = false
opens_door (Some (pack q)) = false
opens_door (Some (serve root settings addr count)) = true
opens_door (Some (turns root settings addr count)) = true
opens_door (Some (rehearse n)) = false

-- the command that was read
abbrev pub spelled : words.Command → Command
spelled (commands.Get request) = get (requested request)
spelled (commands.Reads request) = reads (requested request)
spelled (commands.Plan request) = plan (requested request)
spelled (commands.Pack request) = pack (requested request)
spelled (commands.Serve service) = serving service.order service.root.now service.settings.now service.addr.now service.count
spelled (commands.Rehearse n) = rehearse n
