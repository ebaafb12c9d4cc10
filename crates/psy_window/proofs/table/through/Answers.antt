-- What is left of the proof of `table::through`.
use Rattle.std.proofs.Common.{◌≡◌, ◌+◌, ◌-◌, ◌*◌, ◌≤◌, min, length, get_or, arith}
use Rattle.std.proofs.lemmas.List.{get_or_default}
use Rattle.std.proofs.lemmas.List.Elements.{All-get_or, Contains-get_or}
use Rattle.psy_base.specs.declared.edge.Edge.{Edge}
use Rattle.psy_window.specs.Table.{IsCell, Reaches, row_back}
use Rattle.psy_window.specs.Windows.{IsEdge}
use Rattle.psy_window.proofs.Cells.{through_none, through_alone, through_on}
use Rattle.psy_window.proofs.table.through.Goals as goal

abbrev no_edge : Edge
no_edge = record { from = 0; to = 0; len = 0; due = 0; weight = 0 }

pub returns-then-last_of-within : goal.returns-then-last_of-within
returns-then-last_of-within c d =
    let edges = c.args.edges.now in
    let e = get_or edges c.args.at no_edge in
    let edge : IsEdge c.args.layout.nodes e = All-get_or (IsEdge c.args.layout.nodes) edges c.args.at no_edge c.requires.at c.requires.edges in
    rw (get_or_default edges c.args.at d no_edge c.requires.at) (through_none edges c.args.layout.nodes c.args.span c.args.within e edge (omega arith))

pub returns-then-edge-within : goal.returns-then-edge-within
returns-then-edge-within c d =
    let edges = c.args.edges.now in
    let e = get_or edges c.args.at no_edge in
    let edge : IsEdge c.args.layout.nodes e = All-get_or (IsEdge c.args.layout.nodes) edges c.args.at no_edge c.requires.at c.requires.edges in
    rw (get_or_default edges c.args.at d no_edge c.requires.at) (through_alone edges c.args.layout.nodes c.args.span c.args.within e edge (Contains-get_or edges c.args.at no_edge c.requires.at) (omega arith) (omega arith))

pub returns : goal.returns
returns c d =
    let edges = c.args.edges.now in
    let e = get_or edges c.args.at no_edge in
    let edge : IsEdge c.args.layout.nodes e = All-get_or (IsEdge c.args.layout.nodes) edges c.args.at no_edge c.requires.at c.requires.edges in
    let short : e.len ≤ c.args.within = omega arith in
    let reaches : min e.len c.args.within ≤ c.args.layout.rows = All-get_or (Reaches c.args.within c.args.layout.rows) edges c.args.at no_edge c.requires.at c.requires.reach in
    let is : c.cell.result ≡ get_or c.args.table.now (row_back c.args.layout.rows c.args.layout.next e.len * c.args.layout.nodes + e.to) 0 = cc in
    let cell : IsCell edges (length edges) c.args.span (c.args.within - e.len) e.to c.cell.result =
    rw is (c.requires.table.cells e.len e.to (omega (arith, edge.after, edge.due)) (omega (arith, reaches, short)) short edge.to) in
    rw (get_or_default edges c.args.at d no_edge c.requires.at) (through_on edges c.args.layout.nodes c.args.span c.args.within e c.cell.result edge (Contains-get_or edges c.args.at no_edge c.requires.at) (omega arith) short cell)
