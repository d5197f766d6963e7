-- Every definition that the calls of a history are worked out by, opened at once: `unfolding opened` is short for them all. Definitions only.
-- To unfold a definition is to unfold what its own line names: each bundle below names some of them, and `opened` names the bundles.
use Rattle.std.specs.Float.Ieee.{neg, add, sub, mul, div, lt, le, eq, ne, of_int, of_bits, to_bits, fits}
use Rattle.lists.specs.Pick.{pick}
use Rattle.lists.specs.Part.{part, paste}
use Rattle.lists.specs.Counted.{iter, every, tally}
use Rattle.lists.specs.All.{all}
use Rattle.lists.specs.Refusal.{first_failed}
use Rattle.real.specs.Number.{ratio}
use Rattle.real.specs.Root.{root_of}
use Rattle.real.specs.Scalar.{inverse_of, usable, raised_of, lowered_of, clamp_of, not_below_zero, within, flag_number, reads_yes}
use Rattle.vector.specs.Arithmetic.{zero_v, add_v, sub_v, neg_v, scale_v, parts_v, dot_v, cross_v, length_v, normalize_or_zero, rotate_v, transform_point, rows_of, row_dot, rows_dot, inertia_dot, ith}
use Rattle.angle.specs.Angle.{half_of, grains_of, square_of, bracket, cosine_grains, sine_grains, cosine_of, sine_of}
use Rattle.body.specs.Body.{velocity_at_point, apply_impulse_at_point, impulse_denominator}
use Rattle.tyre.specs.Suspension.{suspension_length, approach_of, damping_of, suspension_force, cut_of}
use Rattle.tyre.specs.Demand.{side_response, rolling_response, rolling_of}
use Rattle.tyre.specs.Grip.{load_of, slides, skid_of, with_skid, rescaled_by, rescaled_of, braked_of, limit_of}
use Rattle.wheel.specs.Steering.{identity, kept_steering, steering_of, kept_controls, controls_of, steering_axis, rotation_from_angle, steering_rotation}
use Rattle.wheel.specs.Ray.{centre_of, settled_centre, update_wheel_transform, ray_of, is_zero, upward_normal, is_undefined, contact_normal, hit_of, miss_of, ray_cast, is_grounded, named_of}
use Rattle.road.specs.Contact.{contact_axis, contact_forward, directions_of, fallbacks_of, dynamic_ground, relative_velocity, swing_of, jacobian_diagonal, denominators_of}
use Rattle.road.specs.Step.{contact_force, wheel_force, suspended_of, apply_suspension, wheel_limit, side_demand, rolling_demand, friction_of, side_point, apply_friction, contact_spin, spun_by}
use Rattle.road.specs.Step.{update_rotation}
use Rattle.table.specs.Rows.{vector_at, rotation_at, inertia_at, info_at, place_at, tuning_at, settings_at, steering_at, controls_at, approach_at, motion_at, fallbacks_at, wheel_of, row_of, wheel_at, put_wheel, chassis_of}
use Rattle.table.specs.Rows.{chassis_list, chassis_at, put_chassis, body_of, body_at}
use Rattle.table.specs.Bounds.{all_within, stored_within}
use Rattle.ranges.specs.Ranges.{in_range, in_unit, not_negative, settings_in_range, sum_of_squares, in_band, rotation_in_range, steering_in_range, controls_in_range, chassis_in_range, body_in_range, bodies_in_range}
use Rattle.ranges.specs.Ranges.{wheel_in_range, stored_in_range}
use Rattle.refusals.specs.Shape.{sizes_ok, axes_ok, status_ok, shape_ok}
use Rattle.refusals.specs.Handed.{settings_handed, controls_handed, chassis_handed, vector_handed, normals_handed, hit_ok, answer_ok, answers_ok, all_normals_handed}
use Rattle.refusals.specs.Normals.{normal_ok, hit_normal_ok, normals_ok, all_normals_ok}
use Rattle.refusals.specs.Steered.{turn_ok, steering_ok, wheel_steered_ok, all_steered_ok}
use Rattle.refusals.specs.After.{settled}
use Rattle.ground.specs.Frame.{grounded_at, grounded_wheels, ground_named, ground_under}
use Rattle.passes.specs.Passes.{changed, each_wheel, moved, each_moves, given, each_gives, transform_at, transforms, cast_at, casts, suspend_at, suspensions, spring_at, springs, directions_in}
use Rattle.passes.specs.Passes.{demand_of, demand_at, demands, rescale_at, rescales, push_at, pushes, spin_at, spins, admits, admitted_at, demands_admitted}
use Rattle.passes.specs.Step.{sprung, demanded, pushed, spun, demand_step, whole_step}
use Rattle.set_up.specs.SetUp.{refuse_set_up, set_up}
use Rattle.add_wheel.specs.Add.{blank_wheel, new_wheel, refuse_add, add_wheel}
use Rattle.set_controls.specs.Controls.{unaimed, refuse_controls, set_controls}
use Rattle.read_wheel.specs.Read.{refuse_read, not_read, reading_of, reading_list, settled_list, read_wheel}
use Rattle.aim.specs.Aim.{speed_of, aimed_table, no_sight, sight_of, sights_of, chassis_tests, place_tests, refuse_aim, not_aimed, aimed_by, aim_of}
use Rattle.aim.specs.Sights.{sight_list, sights_list, aimed_list}
use Rattle.early.specs.Early.{frame_tests, number_tests, range_tests, early_tests}
use Rattle.drive.specs.Drive.{step_tests, refuse_under, refuse_drive, idle_at, wakes, not_driven, driven_by, drive_under, drive_of}
use Rattle.drive.specs.Results.{velocity_list}
use Rattle.demands.specs.History.{answered, accepted, run, run_all, drives, undrives, none_undrives, driven_since}
use Rattle.demands.specs.Answers.{is_one_of, answers}
use Rattle.demands.specs.Held.{are_held, normals_in, hands_held}
use Rattle.demands.specs.Update.{update_of, updated}
use Rattle.demands.specs.Settled.{quiet, length_by}
use Rattle.demands.specs.Steered.{steers, none_steers}
use Rattle.demands.specs.Fixed.{AddHands, AddsHand}
use Rattle.scenario.specs.Results.{words_of, flag_word}
use Rattle.replies.specs.Replies.{aim_results, drive_results, settled_results, all_results}
use Rattle.witnesses.specs.Stream.{answer_words, answers_words, controls_code, call_words, stream_words, results_of, answer_of, answers_to}

unfoldable pub open_lists : Unit {0}
unfolding pick part paste iter every tally all first_failed
open_lists = tt

unfoldable pub open_numbers : Unit {0}
unfolding neg add sub mul div lt le eq ne of_int of_bits to_bits fits ratio root_of inverse_of usable raised_of lowered_of clamp_of not_below_zero within flag_number reads_yes
open_numbers = tt

unfoldable pub open_vectors : Unit {0}
unfolding zero_v add_v sub_v neg_v scale_v parts_v dot_v cross_v length_v normalize_or_zero rotate_v transform_point rows_of row_dot rows_dot inertia_dot ith
open_vectors = tt

unfoldable pub open_bodies : Unit {0}
unfolding velocity_at_point apply_impulse_at_point impulse_denominator centre_of settled_centre update_wheel_transform ray_of is_zero upward_normal is_undefined contact_normal hit_of miss_of ray_cast is_grounded named_of
open_bodies = tt

unfoldable pub open_steerings : Unit {0}
unfolding half_of grains_of square_of bracket cosine_grains sine_grains cosine_of sine_of identity kept_steering steering_of kept_controls controls_of steering_axis rotation_from_angle steering_rotation
open_steerings = tt

unfoldable pub open_tyres : Unit {0}
unfolding suspension_length approach_of damping_of suspension_force cut_of side_response rolling_response rolling_of load_of slides skid_of with_skid rescaled_by rescaled_of braked_of limit_of
open_tyres = tt

unfoldable pub open_contacts : Unit {0}
unfolding contact_axis contact_forward directions_of fallbacks_of dynamic_ground relative_velocity swing_of jacobian_diagonal denominators_of
open_contacts = tt

unfoldable pub open_roads : Unit {0}
unfolding contact_force wheel_force suspended_of apply_suspension wheel_limit side_demand rolling_demand friction_of side_point apply_friction contact_spin spun_by update_rotation
open_roads = tt

unfoldable pub open_rows : Unit {0}
unfolding vector_at rotation_at inertia_at info_at place_at tuning_at settings_at steering_at controls_at approach_at motion_at fallbacks_at wheel_of row_of wheel_at put_wheel chassis_of chassis_list chassis_at put_chassis body_of body_at
open_rows = tt

unfoldable pub open_bounds : Unit {0}
unfolding all_within stored_within in_range in_unit not_negative settings_in_range sum_of_squares in_band rotation_in_range steering_in_range controls_in_range chassis_in_range body_in_range bodies_in_range wheel_in_range stored_in_range
open_bounds = tt

unfoldable pub open_tests : Unit {0}
unfolding sizes_ok axes_ok status_ok shape_ok settings_handed controls_handed chassis_handed vector_handed normals_handed hit_ok answer_ok answers_ok all_normals_handed normal_ok hit_normal_ok normals_ok all_normals_ok turn_ok steering_ok wheel_steered_ok all_steered_ok settled
open_tests = tt

unfoldable pub open_springs : Unit {0}
unfolding changed each_wheel moved each_moves given each_gives transform_at transforms cast_at casts suspend_at suspensions spring_at springs
open_springs = tt

unfoldable pub open_frictions : Unit {0}
unfolding directions_in demand_of demand_at demands rescale_at rescales push_at pushes spin_at spins admits admitted_at demands_admitted
open_frictions = tt

unfoldable pub open_steps : Unit {0}
unfolding grounded_at grounded_wheels ground_named ground_under sprung demanded pushed spun demand_step whole_step
open_steps = tt

unfoldable pub open_calls : Unit {0}
unfolding refuse_set_up set_up blank_wheel new_wheel refuse_add add_wheel unaimed refuse_controls set_controls refuse_read not_read reading_of reading_list settled_list read_wheel
open_calls = tt

unfoldable pub open_aims : Unit {0}
unfolding speed_of aimed_table no_sight sight_of sights_of chassis_tests place_tests refuse_aim not_aimed aimed_by aim_of sight_list sights_list aimed_list
open_aims = tt

unfoldable pub open_drives : Unit {0}
unfolding frame_tests number_tests range_tests early_tests step_tests refuse_under refuse_drive idle_at wakes not_driven driven_by drive_under drive_of velocity_list
open_drives = tt

unfoldable pub open_histories : Unit {0}
unfolding answered accepted run run_all drives undrives none_undrives driven_since is_one_of answers are_held normals_in hands_held update_of updated quiet length_by steers none_steers AddHands AddsHand
open_histories = tt

unfoldable pub open_streams : Unit {0}
unfolding words_of flag_word aim_results drive_results settled_results all_results answer_words answers_words controls_code call_words stream_words results_of answer_of answers_to
open_streams = tt

unfoldable pub opened : Unit {0}
unfolding open_lists open_numbers open_vectors open_bodies open_steerings open_tyres open_contacts open_roads open_rows open_bounds open_tests open_springs open_frictions open_steps open_calls open_aims open_drives open_histories open_streams
opened = tt
