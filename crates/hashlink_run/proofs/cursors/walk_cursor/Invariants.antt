use Rattle.hashlink_run.proofs.Names.{◌≡◌, ◌+◌, ◌++◌, List, length, vec_len, vec_capacity, into_iter_items}
use Rattle.hashlink_run.proofs.{Names.{Reply, first_place, CallableOn, ClosureSays}, CursorProgress.WalksOn}
use Rattle.hashlink_run.specs.CursorSteps.{ReadOnWalk}
use Rattle.hashlink_core.specs.Keyed.{state_of}
use Rattle.hashlink_map.specs.Cursor.{cursor_map, cursor_state}
use Rattle.hashlink_run.proofs.cursors.walk_cursor.Given as goal

abbrev pub invariant-loop-step : goal.invariant-loop-step
invariant-loop-step g l = (replies : List (Reply _ _ _))
    × WalksOn g.K.PartialEq.eq (ClosureSays g.F.Fn l.says) (first_place (state_of l.fn.map))
    (cursor_state l.cursor) l.fn.steps.items (into_iter_items l.step-iterator) replies
    × (l.replies.items ≡ l.fn.replies.items ++ replies)
    × ((cursor_map l.cursor).ghost_name ≡ (cursor_map l.initial.cursor).ghost_name)
    × (vec_len l.replies + length (into_iter_items l.step-iterator) ≡ vec_len l.fn.replies +
    length l.fn.steps.items)
    × (vec_capacity l.replies ≡ vec_capacity l.fn.replies)
    × CallableOn g.F.Fn l.says (ReadOnWalk g.K.PartialEq.eq (ClosureSays g.F.Fn l.says)
    (cursor_state l.cursor) (into_iter_items l.step-iterator))
