-- The rows of the links are in the order of their numbers; and all rows are those of the router as it is opened.
use Rattle.std.proofs.Common.{◌≡◌, T, ap, map, nat_cmp, subst, sym, ◌∙◌}
use Rattle.label_space.specs.Bindings.{Bindings}
use Rattle.lsr_config.specs.Configs.{Setup, setup}
use Rattle.lsr_facts.specs.declared.key.Item.{Item}
use Rattle.lsr_facts.specs.declared.upstream.Upstream.{Upstream}
use Rattle.refresh_timers.specs.Timers.{Timers}
use Rattle.sorted_rows.specs.Rows.{keys_of}
use Rattle.sorted_rows.specs.RowsLaws.{is_sorted-both}
use Rattle.abstract_paths.specs.RowLaws.{keys-map}
use Rattle.admission.specs.Bandwidths.{Bandwidth}
use Rattle.router_tables.specs.States.{AreOpened, opened, router_state_of}
use Rattle.router_tables.specs.declared.rows.Rows.{Rows}
use Rattle.router_tables.proofs.tables.rows_of.Goals as goal

pub from_rows-requires : goal.from_rows-requires
from_rows-requires c =
    let links = c.config.inside.router.links in
    let up = c.in_ok-up.ensures ∙ ap (map (λ l. (l.0, l.1.up))) c.as_slice.ensures.rows in
    subst T (sym (is_sorted-both nat_cmp c.in_ok-up.up.items links (ap keys_of up ∙ keys-map (λ l. l.1.up) links))) c.as_slice.ensures.sorted

pub from_rows-requires-2 : goal.from_rows-requires-2
from_rows-requires-2 c =
    let links = c.config.inside.router.links in
    let limits = c.in_ok-limits.ensures ∙ ap (map (λ l. (l.0, l.1.limit))) c.as_slice-2.ensures.rows in
    subst T (sym (is_sorted-both nat_cmp c.in_ok-limits.limits.items links (ap keys_of limits ∙ keys-map (λ l. l.1.limit) links))) c.as_slice-2.ensures.sorted

pub returns : goal.returns
returns c =
    let given = c.config.inside in
    let rows : Rows = record {
      router = given.router;
      moment = 0;
      up = c.from_rows.result;
      routes = c.routes.inside.rows.items;
      tunnels = c.in_ok-with_room.field-0;
      bypasses = c.bypasses.inside.rows.items;
      paths = c.in_ok-new.field-0;
      timers = c.in_ok-new-2.field-0;
      bandwidth = c.in_ok-new-3.field-0;
      repairs = c.in_ok-new-4.field-0;
      assignments = c.in_ok-new-5.field-0;
      labels = c.in_ok-new-6.field-0;
      upstream = c.in_ok-new-7.field-0;
      table = c.in_ok-new-8.field-0;
    } in
    let up = c.from_rows.ensures ∙ c.in_ok-up.ensures ∙ ap (map (λ l. (l.0, l.1.up))) c.as_slice.ensures.rows in
    let first = opened (setup given.router given.routes given.tunnels given.bypasses) in
    let is : router_state_of rows ≡ first = λ i. record first {
      state = record first.state {
        facts = record first.state.facts { up = up i; routes = c.routes.view_is i; bypasses = c.bypasses.view_is i; tunnels = c.in_ok-with_room.ensures i; paths = c.in_ok-new.ensures i; sent = (c.in_ok-new-2.ensures i).sent };
        resvs = (c.in_ok-new-3.ensures i).resvs;
        repairs = c.in_ok-new-4.ensures i;
        labels = (c.in_ok-new-6.ensures i).labels;
        assignments = c.in_ok-new-5.ensures i;
        resting = (c.in_ok-new-6.ensures i).resting;
        sent_upstream = (c.in_ok-new-7.ensures i).sent;
      };
    } in
    subst (λ (s : Setup). AreOpened s rows) c.config.view_is (record {
      config = c.config.invariant;
      is = is;
      period = ap (λ (timers : Timers Item). timers.refresh_ms) c.in_ok-new-2.ensures;
      upstream_period = ap (λ (timers : Timers Upstream). timers.refresh_ms) c.in_ok-new-7.ensures;
      claims = ap (λ (b : Bandwidth). b.claims) c.in_ok-new-3.ensures;
      range = ap (λ (b : Bindings). b.range) c.in_ok-new-6.ensures;
      moment = ap (λ (b : Bindings). b.moment) c.in_ok-new-6.ensures;
      table = c.in_ok-new-8.ensures;
    })
