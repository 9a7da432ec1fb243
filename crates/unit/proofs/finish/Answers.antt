-- by the case, what was called says it
use mathlib.Core.Path.{refl}
use mathlib.Core.List.{[]}
use Rattle.table.specs.Table.{without}
use Rattle.unit.proofs.Laws.{put_out, put_start, put_stop, reset_rows, not_touched, put_set_up, put_closed}
use Rattle.unit.proofs.finish.Goals as goal

pub returns-then-names_none : goal.returns-then-names_none
returns-then-names_none c = λ w. rw c.in-Resets.is (record { back = c.hand_back-then-names_none.ensures; unit = not_touched c.args.n c.args.unit.now c.requires c.args.kept.now c.names_none.ensures c.if-names_none.true })

pub returns-in-Stays : goal.returns-in-Stays
returns-in-Stays c = λ w. rw c.in-Stays.is (record { back = c.hand_back.ensures; unit = refl })

pub returns-in-Starts : goal.returns-in-Starts
returns-in-Starts c = λ w. rw c.in-Starts.is (record { back = c.hand_back-in-Starts.ensures; unit = put_start c.args.n c.args.unit.now c.requires _ c.rows_in-t.ensures c.start.ensures c.table_out.ensures })

pub returns-in-Stops : goal.returns-in-Stops
returns-in-Stops c = λ w. rw c.in-Stops.is (record { back = c.hand_back-in-Stops.ensures; unit = put_stop c.args.n c.args.unit.now c.requires _ _ c.rows_in-t-in-Stops.ensures c.stop.ensures c.table_out-in-Stops.ensures })

pub returns-in-Empties : goal.returns-in-Empties
returns-in-Empties c = λ w. rw c.in-Empties.is (record { back = c.hand_back-in-Empties.ensures; unit = put_out c.args.n c.args.unit.now c.requires [] c.empty.ensures c.table_out-in-Empties.ensures })

pub returns-else-names_none : goal.returns-else-names_none
returns-else-names_none c = λ w. rw c.in-Resets.is (record { back = c.hand_back-in-Resets.ensures; unit = put_out c.args.n c.args.unit.now c.requires (without _ _) (reset_rows _ _ c.rows_in-rows.ensures c.reset.ensures) c.table_out-in-Resets.ensures })

pub returns-in-SetsUp : goal.returns-in-SetsUp
returns-in-SetsUp c = λ w. rw c.in-SetsUp.is (record { back = c.hand_back-in-SetsUp.ensures; unit = put_set_up c.args.n c.args.unit.now c.requires (put_out c.args.n c.args.unit.now c.requires [] c.empty-in-SetsUp.ensures c.table_out-in-SetsUp.ensures) c.put_open.ensures })

pub returns-in-SetupFails : goal.returns-in-SetupFails
returns-in-SetupFails c = λ w. rw c.in-SetupFails.is (record { back = c.hand_back-in-SetupFails.ensures; unit = put_closed c.args.n c.args.unit.now c.requires c.put_open-in-SetupFails.ensures })
