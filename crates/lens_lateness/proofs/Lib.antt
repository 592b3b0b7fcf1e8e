pub mod ClockLaws
pub mod RefusalLaws
