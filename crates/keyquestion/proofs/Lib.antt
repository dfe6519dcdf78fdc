pub mod NumberLaws
pub mod QuestionLaws
