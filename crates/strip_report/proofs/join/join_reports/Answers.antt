use Rattle.std.proofs.Common.{◌≡◌, ℕ, ◌+◌, ◌-◌, min, List, ◌++◌, [], append-nil, length, vec_items, codes, ap, ◌∙◌, subst}
use Rattle.std.proofs.lemmas.Result.{IfOk-weaker}
use Rattle.cost.specs.Amounts.{whole}
use Rattle.source.specs.declared.due.DueRow.{DueRow}
use Rattle.source.specs.Due.{due_meaning}
use Rattle.route.specs.Table.{plains}
use Rattle.route.specs.Joins.{JoinJudged}
use Rattle.strip_report.specs.Joined.{joined_units, half_text, join_lines, JoinPrintsOnly}
use Rattle.strip_report.proofs.JoinOnly.{pieces_are, join_reports, both_read}
use Rattle.strip_report.proofs.join.join_reports.Goals as goal

pub returns : goal.returns
returns c =
    let strip = c.args.first.now.bytes.now in
    let rows = vec_items c.args.first.now.rows in
    let from = c.args.first.now.calls in
    let other = c.args.second.now.bytes.now in
    let more = vec_items c.args.second.now.rows in
    let at = c.args.second.now.calls in
    let i = c.args.i in
    let leg = c.args.leg in
    let j = c.args.j in
    let one = c.in_ok-a.a in
    let two = c.in_ok-b.b in
    let shown = c.in_ok-a.ensures in
    let shown-too = c.in_ok-b.ensures in
    let r = one.ended in
    let s = two.ended in
    let a = vec_items one.report in
    let b = vec_items two.report in
    let ps = plains one.route.stops in
    let qs = plains two.route.stops in
    let result = joined_units c.join-joined.result in
    let n = c.joined_count-count.result in
    let judged : JoinJudged whole (due_meaning rows) ps i leg (due_meaning more) qs j result =
    subst (λ (l : List DueRow). JoinJudged whole (due_meaning rows) ps i leg (due_meaning l) qs j result) shown-too.source
    (subst (λ (l : List DueRow). JoinJudged whole (due_meaning l) ps i leg (due_meaning (vec_items two.route.source.rows)) qs j result) shown.source c.join-joined.ensures) in
    let count : n ≡ min i (length ps) + (length qs - (j - 1)) =
    c.joined_count-count.ensures ∙ ap (λ (k : ℕ). min i k + (c.stop_count-2.result - (j - 1))) c.stop_count.ensures.value ∙ ap (λ (k : ℕ). min i (length ps) + (k - (j - 1))) c.stop_count-2.ensures.value in
    let front = c.as_slice-3.ensures.value ∙ c.in_ok-front.ensures ∙ ap (λ (l : List ℕ). half_text (codes "first") l r) c.as_slice.ensures.value in
    let back = c.as_slice-4.ensures.value ∙ c.in_ok-back.ensures ∙ ap (λ (l : List ℕ). half_text (codes "second") l s) c.as_slice-2.ensures.value in
    let last = c.as_bytes.ensures.value ∙ c.in_ok-last.ensures in
    let f = c.as_slice-3.result.now in
    let g = c.as_slice-4.result.now in
    let h = c.as_bytes.result.now in
    IfOk-weaker c.put_together.result (λ v. vec_items v ≡ f ++ (g ++ (h ++ []))) (λ v. JoinPrintsOnly strip i leg other j (vec_items v))
    (λ v is. both_read strip i leg other j (vec_items v) rows more from at c.args.first.now.held c.args.second.now.held (join_reports strip rows from i leg other more at j r s a b (vec_items v) shown.told_by shown-too.told_by ps qs result n shown.stops shown-too.stops judged count
    (pieces_are (vec_items v) f g h (half_text (codes "first") a r) (half_text (codes "second") b s) (join_lines n result) (is ∙ ap (λ (l : List ℕ). f ++ (g ++ l)) (append-nil h)) front back last)))
    c.put_together.ensures
