-- Responses (RFC 2453 section 3.9.2): the entries are taken in order.
use Rattle.std.specs.Prelude.{ℕ, if◌then◌else◌, List, fold}
use Rattle.rip_wire.specs.declared.entry.Entry.{Entry}
use Rattle.rip_table.specs.Response.{entry_taken}
use Rattle.rip_table.specs.Routes.{Routes}
use Rattle.rip_guest.specs.Requests.{is_authenticated}

-- the routes after a response on a port of this cost
abbrev pub response_taken : ℕ → ℕ → ℕ → Routes → List Entry → Routes
response_taken port cost now routes entries =
    if is_authenticated entries then routes else fold (λ r e. entry_taken port cost e now r) routes entries
