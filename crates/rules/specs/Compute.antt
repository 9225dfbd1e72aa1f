-- Opens every definition at once, for what is computed: `unfolding computing`. Proofs open one layer at a time instead.
-- Written by tools/bundle.py.
use Rattle.rules.specs.Lists.{filter, any, all, count, index_of, snoc, list_if, when, unless, concat_map, fold, up_to, sum, distinct}
use Rattle.rules.specs.Clause.{literals, condition_literals, owner_alone, asserted}
use Rattle.rules.specs.AtMostOne.{bit, helpers_after, helpers_for, helper_clauses, helpers_clauses, part_clauses, join_clauses}
use Rattle.rules.specs.Catalogue.{part_at, range_at, requirement_at, constraint_at, excluded_part, exclusion_reason, unknown_owner}
use Rattle.rules.specs.Candidates.{parts_of, matching, non_matching, favoured_first, sorted, goal_ranges, candidates, requirements_of, constraints_of, locked_part, others, locked_out, excluded_parts}
use Rattle.rules.specs.Conditions.{combined, from_halves, disjuncts_below, disjuncts, too_wide, too_many_disjuncts, disjuncts_if, disjuncts_of, disjunct_at, indices, unconditional}
use Rattle.rules.specs.Refusals.{number_and_place, unless_any}
use Rattle.rules.specs.Bytes.{byte_at, word_at}
use Rattle.rules.specs.Records.{look_up, kind_of, of_sheet, record_of, read_body, read_kind, read}
use Rattle.rules.specs.Items.{owner_of, condition_of, goal_of, operator_of, part_of, with_member, ceiling, given, at_ceiling, absent, owner_absent, condition_absent, of_same_name, item_refusals, with_item, add_item}
use Rattle.rules.specs.Decisions.{decided_as, evaluate, is_true, is_false, all_false, last_level, up_to_level}
use Rattle.rules.specs.Variables.{key, same_key, known, variable_of, with_variable, with_variables}
use Rattle.rules.specs.Opening.{queue, open_owner, open_name, mark_handled, add, open_names, ranges_first, task_by, tasks_of, serve_owner, serve_name, holds_now, entry_holds, fire, serve_condition, fired_parts, name_for_tracking, open_ready, serve_requirement, serve, is_drawn, draw, begin_run, joining, end_run, tracked_of}
use Rattle.rules.specs.Encoding.{shape_by, shape, few, helpers_of, range_origins, range_literals, disjunct_origins, shape_origins, constraint_origins, task_origins, origins, disjunct_literals, requirement_clauses, constraint_clauses, task_clauses, clauses}
use Rattle.rules.specs.State.{decided_true, report, force, propagate_by, propagate, effect, effects, emit, emit_all}
use Rattle.rules.specs.Run.{name_if_one, joins_from, links_for, serve_task, serve_line, join_all, link_all, begun, most_tasks, run_once}
use Rattle.rules.specs.Limits.{within, allowed, marks_area, unions_area, catalogue_area, clauses_area, growing_state, fixed_state, state_area, waiting_area, needed, covers, fits, above}
use Rattle.rules.specs.Sheet.{too_low, decide, command_refusals, carried_out, carry_out}
use Rattle.rules.specs.Listing.{ascii, digits, decimal, line, signed, owner_field, goal_fields, origin_fields, clause_field, decision_line, numbered, assertions, reason_number, word_fields, clause_fields, waiting_line, waiting_lines, listing}
use Rattle.rules.specs.Job.{body_of, walk, after_item, after_command, after_record, run_step, begun_with, progress, ending, ended_by, ended, outcome, answer_of, answer, printed, listing_area, work_area, starts_sheet, check_by, check_step, checked, check_answer, shown, kitlist}
use Rattle.rules.specs.CheckRun.{before_sheet, sheet_place}
use Rattle.rules.specs.Keeps.{name_kept, exclusions_kept, lock_kept, unknown_kept, constraint_kept, range_unmet, has_candidate, disjunct_kept, fired_of, requirement_kept_by, requirement_kept, owner_kept, keeps}
use Rattle.rules.specs.ReadBack.{join_first, runs_between, lines_read, number_read, is_letter, is_word, literal_read, clause_read, clauses_read, origin_read, variable_read, variables_read, variable_number, numbers_read}

unfoldable pub computing : Unit {0}
unfolding filter any all count index_of snoc list_if when unless concat_map fold up_to sum distinct literals condition_literals owner_alone asserted bit helpers_after helpers_for helper_clauses helpers_clauses part_clauses join_clauses part_at range_at requirement_at constraint_at excluded_part exclusion_reason unknown_owner parts_of matching non_matching favoured_first sorted goal_ranges candidates requirements_of constraints_of locked_part others locked_out excluded_parts combined from_halves disjuncts_below disjuncts too_wide too_many_disjuncts disjuncts_if disjuncts_of disjunct_at indices unconditional number_and_place unless_any byte_at word_at look_up kind_of of_sheet record_of read_body read_kind read owner_of condition_of goal_of operator_of part_of with_member ceiling given at_ceiling absent owner_absent condition_absent of_same_name item_refusals with_item add_item decided_as evaluate is_true is_false all_false last_level up_to_level key same_key known variable_of with_variable with_variables queue open_owner open_name mark_handled add open_names ranges_first task_by tasks_of serve_owner serve_name holds_now entry_holds fire serve_condition fired_parts name_for_tracking open_ready serve_requirement serve is_drawn draw begin_run joining end_run tracked_of shape_by shape few helpers_of range_origins range_literals disjunct_origins shape_origins constraint_origins task_origins origins disjunct_literals requirement_clauses constraint_clauses task_clauses clauses decided_true report force propagate_by propagate effect effects emit emit_all name_if_one joins_from links_for serve_task serve_line join_all link_all begun most_tasks run_once within allowed marks_area unions_area catalogue_area clauses_area growing_state fixed_state state_area waiting_area needed covers fits above too_low decide command_refusals carried_out carry_out ascii digits decimal line signed owner_field goal_fields origin_fields clause_field decision_line numbered assertions reason_number word_fields clause_fields waiting_line waiting_lines listing body_of walk after_item after_command after_record run_step begun_with progress ending ended_by ended outcome answer_of answer printed listing_area work_area starts_sheet check_by check_step checked check_answer shown kitlist before_sheet sheet_place name_kept exclusions_kept lock_kept unknown_kept constraint_kept range_unmet has_candidate disjunct_kept fired_of requirement_kept_by requirement_kept owner_kept keeps join_first runs_between lines_read number_read is_letter is_word literal_read clause_read clauses_read origin_read variable_read variables_read variable_number numbers_read
computing = tt
