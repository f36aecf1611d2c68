-- A line that none of the readers takes asks for nothing.
use Rattle.lsr_lines.specs.Lines.{AsksFor}
use Rattle.lsr_lines.specs.declared.lines.Request.{Request}
use Rattle.lsr_lines.specs.declared.lines.Request.TheVariants as requests
use Rattle.lsr_lines.specs.declared.shown.Shown.TheVariants as shows
use Rattle.lsr_lines.proofs.lines.read_request.Goals as goal

pub returns-in-None-clause-request : goal.returns-in-None-clause-request
returns-in-None-clause-request c = none
  where
    none : (asked : Request) → AsksFor c.args.line.now asked → ⊥
    none (requests.Receive arrival) h = (rw c.in_default-3.is at c.in_ok-arrival.ensures.arrival) arrival.link arrival.bytes.items h
    none (requests.Frame arrival) h = (rw c.in-None.is at c.in_ok-arrival-2.ensures.arrival) arrival.link arrival.bytes.items h
    none (requests.Tick moment) h = c.in_default-read_number.ensures.0 moment h
    none (requests.LinkUp link) h = c.in_default-read_number.ensures.1 link h
    none (requests.LinkDown link) h = c.in_default-read_number.ensures.2 link h
    none requests.Restart h = c.in_default.ensures.0 h
    none requests.Start h = c.in_default.ensures.1 h
    none (requests.Command command) h = (rw c.in_default-2.is at c.in_ok-command.ensures.command) command h
    none requests.Recent h = c.in_default.ensures.2 h
    none (requests.Show shows.Paths) h = c.in_default-read_show.ensures.0 h
    none (requests.Show shows.Resvs) h = c.in_default-read_show.ensures.1 h
    none (requests.Show shows.Table) h = c.in_default-read_show.ensures.2 h
    none (requests.Show shows.Labels) h = c.in_default-read_show.ensures.3 h
    none (requests.Show shows.Links) h = c.in_default-read_show.ensures.4 h
    none (requests.Show shows.Tunnels) h = c.in_default-read_show.ensures.5 h
    none (requests.Show shows.Bypasses) h = c.in_default-read_show.ensures.6 h
    none (requests.Show shows.Summary) h = c.in_default-read_show.ensures.7 h
    none (requests.Show shows.Config) h = c.in_default-read_show.ensures.8 h
    none (requests.Show shows.Lsps) h = c.in_default-read_show.ensures.9 h
    none (requests.Show (shows.Path lsp)) h = c.in_default-read_show_lsp.ensures.0 lsp h
    none (requests.Show (shows.Resv lsp)) h = c.in_default-read_show_lsp.ensures.1 lsp h
    none (requests.Show (shows.TunnelLsps number)) h = c.in_default-read_show_lsp.ensures.2 number h
    none (requests.Show (shows.Lsp lsp)) h = c.in_default-read_show_lsp.ensures.3 lsp h
